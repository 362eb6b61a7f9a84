use Rattle.std.proofs.Common.{◌≡◌, ◌++◌, drop, map}
use Rattle.chc_sexpr.specs.Writing.{spaced}
use Rattle.chc_print.specs.Datatypes.{ctors_text}
use Rattle.chc_print.proofs.datatypes.write_more_ctors_of.Given as goal

abbrev pub invariant-loop-datatype : goal.invariant-loop-datatype
invariant-loop-datatype l = l.out ++ spaced (map (ctors_text l.sig) (drop l.datatype-index l.group)) ≡ l.initial.out ++ spaced (map (ctors_text l.sig) l.group)
