use Rattle.std.proofs.Common.{◌≡◌, take}
use Rattle.chc_jobs.proofs.lift.copying.copy_atoms.Given as goal

-- what has been copied so far is equal
abbrev pub invariant-loop-atom : goal.invariant-loop-atom
invariant-loop-atom l = l.copies ≡ take l.atom-index l.atom-items
