use Rattle.std.proofs.Common.{◌+◌, ◌-◌, length}
use Rattle.chc_print.proofs.HelperLaws.{AreMade}
use Rattle.chc_print.proofs.helpers.helper_names.Given as goal

abbrev pub invariant-loop-alloc : goal.invariant-loop-alloc
invariant-loop-alloc l = AreMade l.used l.stem l.count (length l.initial.table) l.number l.table l.names

abbrev pub decreases-loop-alloc : goal.decreases-loop-alloc
decreases-loop-alloc l = length l.initial.table + l.count - l.number
