use Rattle.std.proofs.Common.{◌≡◌, ◌++◌, drop}
use Rattle.std.specs.List.{flat_map}
use Rattle.chc_sorts.specs.declared.data.Data.{Data}
use Rattle.chc_print.specs.Prefix.{ctor_names}
use Rattle.chc_print.proofs.prefix.add_functions.Given as goal

abbrev pub invariant-loop-datatype : goal.invariant-loop-datatype
invariant-loop-datatype l =
    l.used ++ flat_map ctor_names (flat_map (λ (t : Data). t.ctors) (drop l.datatype-index l.datatypes))
    ≡ l.initial.used ++ flat_map ctor_names (flat_map (λ (t : Data). t.ctors) l.datatypes)
