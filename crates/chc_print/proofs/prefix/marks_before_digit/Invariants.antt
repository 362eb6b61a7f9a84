use Rattle.std.proofs.Common.{◌≡◌, drop}
use Rattle.chc_print.specs.Prefix.{marks_from}
use Rattle.chc_print.proofs.prefix.marks_before_digit.Given as goal

abbrev pub invariant-loop-marks : goal.invariant-loop-marks
invariant-loop-marks l = marks_from l.marks (drop l.marks l.bytes) ≡ marks_from 0 l.bytes
