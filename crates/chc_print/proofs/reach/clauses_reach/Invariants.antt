use Rattle.std.proofs.Common.{◌≡◌, max, drop, map}
use Rattle.chc_terms.specs.Counts.{greatest}
use Rattle.chc_print.specs.Reach.{clause_reach}
use Rattle.chc_print.proofs.reach.clauses_reach.Given as goal

abbrev pub invariant-loop-clause : goal.invariant-loop-clause
invariant-loop-clause l = max l.most (greatest (map clause_reach (drop l.clause-index l.clauses))) ≡ greatest (map clause_reach l.clauses)
