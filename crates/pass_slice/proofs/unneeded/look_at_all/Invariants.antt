use Rattle.pass_slice.specs.Slices.{is_unneeded}
use Rattle.pass_slice.specs.Tables.{Bounds}
use Rattle.pass_slice.proofs.unneeded.look_at_all.Given as goal

abbrev pub invariant-loop-k : goal.invariant-loop-k
invariant-loop-k l = Bounds is_unneeded l.s l.table.items
