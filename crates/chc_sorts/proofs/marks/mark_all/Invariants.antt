use Rattle.std.proofs.Common.{◌≡◌, length}
use Rattle.chc_sorts.specs.Marks.{AreTrue, unmarked}
use Rattle.chc_sorts.proofs.marks.mark_all.Given as goal

abbrev pub invariant-loop : goal.invariant-loop
invariant-loop l = (length l.marks ≡ length l.datatypes) × (AreTrue l.datatypes l.initial.marks → AreTrue l.datatypes l.marks)

abbrev pub decreases-loop : goal.decreases-loop
decreases-loop l = unmarked l.marks
