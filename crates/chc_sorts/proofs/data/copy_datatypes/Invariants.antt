use Rattle.std.proofs.Common.{◌≡◌, take}
use Rattle.chc_sorts.proofs.data.copy_datatypes.Given as goal

abbrev pub invariant-loop-datatype : goal.invariant-loop-datatype
invariant-loop-datatype l = l.copies ≡ take l.datatype-index l.datatype-items
