use Rattle.chc_sorts.specs.Marks.{AllMarked}
use Rattle.chc_sorts.proofs.marks.first_unmarked.Given as goal

abbrev pub invariant-loop-d : goal.invariant-loop-d
invariant-loop-d l = AllMarked l.marks l.d
