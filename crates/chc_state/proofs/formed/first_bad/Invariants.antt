use Rattle.std.proofs.Common.{◌≡◌, drop, not}
use Rattle.std.specs.List.{position_from}
use Rattle.chc_state.specs.WellFormed.{first_bad, may_stand}
use Rattle.chc_state.proofs.formed.first_bad.Given as goal

abbrev pub invariant-loop-k : goal.invariant-loop-k
invariant-loop-k l = position_from (λ c. not (may_stand l.sig l.preds c)) l.k (drop l.k l.clauses) ≡ first_bad l.sig l.preds l.clauses
