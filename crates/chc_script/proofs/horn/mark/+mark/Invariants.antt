use Rattle.std.proofs.Common.{◌≡◌, ◌++◌, drop, map}
use Rattle.chc_script.specs.Marks.{marked}
use Rattle.chc_script.proofs.horn.mark.+mark.Given as goal

abbrev pub invariant-marks_of-loop-term : goal.invariant-marks_of-loop-term
invariant-marks_of-loop-term l = l.marks ++ map marked (drop l.term-index l.term-items) ≡ map marked l.terms
