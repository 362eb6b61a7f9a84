use Rattle.std.proofs.Common.{◌≡◌, take}
use Rattle.chc_sorts.proofs.data.copy_ctors.Given as goal

abbrev pub invariant-loop-ctor : goal.invariant-loop-ctor
invariant-loop-ctor l = l.copies ≡ take l.ctor-index l.ctor-items
