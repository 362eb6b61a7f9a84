use Rattle.std.proofs.Common.{◌≡◌, ◌++◌, drop}
use Rattle.chc_terms.specs.Shifted.{shifted_all, can_shift_all}
use Rattle.chc_terms.proofs.shifting.+shift.Given as goal
use Rattle.std.specs.Prelude.{IsTrue}

abbrev pub invariant-shift_all-loop-t : goal.invariant-shift_all-loop-t
invariant-shift_all-loop-t l = IsTrue (can_shift_all (drop l.t-index l.t-items) l.from l.up) × (l.made ++ shifted_all (drop l.t-index l.t-items) l.from l.up ≡ shifted_all l.ts l.from l.up)
