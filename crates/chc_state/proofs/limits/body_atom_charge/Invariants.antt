use Rattle.std.proofs.Common.{◌≡◌, ◌≤◌, ◌+◌, ◌-◌, ◌^◌, min, drop}
use Rattle.chc_state.specs.Limits.{charge_of_args, filled_of_body}
use Rattle.chc_state.proofs.Charges.{body_args}
use Rattle.chc_state.proofs.limits.body_atom_charge.Given as goal

abbrev pub invariant-loop-t : goal.invariant-loop-t
invariant-loop-t l =
    (l.sum ≤ 2 ^ 64 - 1) × (min (l.sum + body_args (drop l.t-index l.args)) (2 ^ 64 - 1) ≡ min (charge_of_args l.args (filled_of_body l.args)) (2 ^ 64 - 1))
