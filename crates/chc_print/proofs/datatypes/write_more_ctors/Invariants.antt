use Rattle.std.proofs.Common.{◌≡◌, ◌++◌, drop, map}
use Rattle.chc_sexpr.specs.Writing.{spaced}
use Rattle.chc_print.specs.Datatypes.{ctor_text}
use Rattle.chc_print.proofs.datatypes.write_more_ctors.Given as goal

abbrev pub invariant-loop-ctor : goal.invariant-loop-ctor
invariant-loop-ctor l = l.out ++ spaced (map (ctor_text l.sig) (drop l.ctor-index l.ctors)) ≡ l.initial.out ++ spaced (map (ctor_text l.sig) l.ctors)
