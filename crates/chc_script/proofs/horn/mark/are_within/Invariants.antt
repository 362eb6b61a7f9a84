use Rattle.std.proofs.Common.{◌≡◌, drop}
use Rattle.std.specs.List.{list_any}
use Rattle.chc_script.specs.Marks.{is_within}
use Rattle.chc_script.proofs.horn.mark.are_within.Given as goal

abbrev pub invariant-loop-mark : goal.invariant-loop-mark
invariant-loop-mark l = list_any is_within (drop l.mark-index l.mark-items) ≡ list_any is_within l.marks
