use Rattle.std.proofs.Common.{◌≡◌, take}
use Rattle.chc_jobs.proofs.lift.copying.copy_clauses.Given as goal

-- what has been copied so far is equal
abbrev pub invariant-loop-clause : goal.invariant-loop-clause
invariant-loop-clause l = l.copies ≡ take l.clause-index l.clause-items
