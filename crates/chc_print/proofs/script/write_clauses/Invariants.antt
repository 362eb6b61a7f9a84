use Rattle.std.proofs.Common.{◌≡◌, ◌++◌, drop, map}
use Rattle.std.specs.List.{concat}
use Rattle.chc_print.specs.Script.{clause_text}
use Rattle.chc_print.proofs.script.write_clauses.Given as goal

abbrev pub invariant-loop-clause : goal.invariant-loop-clause
invariant-loop-clause l =
    l.out ++ concat (map (clause_text l.names) (drop l.clause-index l.clauses)) ≡ l.initial.out ++ concat (map (clause_text l.names) l.clauses)
