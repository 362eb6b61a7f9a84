use Rattle.std.proofs.Common.{◌≡◌, ◌++◌, drop, map}
use Rattle.chc_sexpr.specs.Writing.{spaced}
use Rattle.chc_print.specs.Datatypes.{arity_text}
use Rattle.chc_print.proofs.datatypes.write_more_arities.Given as goal

abbrev pub invariant-loop-datatype : goal.invariant-loop-datatype
invariant-loop-datatype l = l.out ++ spaced (map arity_text (drop l.datatype-index l.group)) ≡ l.initial.out ++ spaced (map arity_text l.group)
