use Rattle.chc_sorts.proofs.MarkLaws.{RoundKept}
use Rattle.chc_sorts.proofs.marks.mark_round.Given as goal

abbrev pub invariant-loop-d : goal.invariant-loop-d
invariant-loop-d l = RoundKept l.datatypes l.initial.marks l.marks l.d l.grown
