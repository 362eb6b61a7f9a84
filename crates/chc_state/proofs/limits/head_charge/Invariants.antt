use Rattle.std.proofs.Common.{◌≡◌, ◌≤◌, ◌+◌, ◌-◌, ◌^◌, [], min, take, drop}
use Rattle.chc_state.specs.Limits.{charge_of_args, filled_after}
use Rattle.chc_state.proofs.Charges.{head_args}
use Rattle.chc_state.proofs.limits.head_charge.Given as goal

abbrev pub invariant-loop-i : goal.invariant-loop-i
invariant-loop-i l =
    (l.sum ≤ 2 ^ 64 - 1)
    × (min (l.sum + head_args (take l.i l.args) (drop l.i l.args)) (2 ^ 64 - 1) ≡ min (charge_of_args l.args (filled_after [] l.args)) (2 ^ 64 - 1))
