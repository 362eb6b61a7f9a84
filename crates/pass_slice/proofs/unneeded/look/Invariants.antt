use Rattle.std.proofs.Common.{count_by}
use Rattle.pass_slice.specs.Slices.{is_unneeded}
use Rattle.pass_slice.specs.Tables.{Bounds}
use Rattle.pass_slice.proofs.unneeded.look.Given as goal

abbrev pub invariant-loop-p : goal.invariant-loop-p
invariant-loop-p l = Bounds is_unneeded l.s l.table.items

abbrev pub decreases-loop-p : goal.decreases-loop-p
decreases-loop-p l = count_by (λ b. b) l.table.items
