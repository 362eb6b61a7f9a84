use Rattle.std.proofs.Common.{◌≡◌, ◌≤◌, ◌+◌, ◌-◌, ◌^◌, min, drop}
use Rattle.chc_state.proofs.Charges.{body_filled}
use Rattle.chc_state.proofs.limits.filled_in_body.Given as goal

abbrev pub invariant-loop-atom : goal.invariant-loop-atom
invariant-loop-atom l = (l.sum ≤ 2 ^ 64 - 1) × (min (l.sum + body_filled (drop l.atom-index l.body)) (2 ^ 64 - 1) ≡ min (body_filled l.body) (2 ^ 64 - 1))
