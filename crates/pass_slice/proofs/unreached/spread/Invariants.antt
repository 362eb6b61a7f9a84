use Rattle.pass_slice.specs.Slices.{is_unreached}
use Rattle.pass_slice.specs.Tables.{Bounds}
use Rattle.pass_slice.proofs.unreached.spread.Given as goal

abbrev pub invariant-loop-k : goal.invariant-loop-k
invariant-loop-k l = Bounds is_unreached l.s l.table.items

abbrev pub invariant-loop-i : goal.invariant-loop-i
invariant-loop-i l = Bounds is_unreached l.s l.table.items
