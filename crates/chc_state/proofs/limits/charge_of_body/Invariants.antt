use Rattle.std.proofs.Common.{◌≡◌, ◌≤◌, ◌+◌, ◌-◌, ◌^◌, min, drop}
use Rattle.chc_state.proofs.Charges.{body_charge}
use Rattle.chc_state.proofs.limits.charge_of_body.Given as goal

abbrev pub invariant-loop-atom : goal.invariant-loop-atom
invariant-loop-atom l = (l.sum ≤ 2 ^ 64 - 1) × (min (l.sum + body_charge (drop l.atom-index l.body)) (2 ^ 64 - 1) ≡ min (body_charge l.body) (2 ^ 64 - 1))
