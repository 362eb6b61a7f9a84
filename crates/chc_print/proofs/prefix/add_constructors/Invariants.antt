use Rattle.std.proofs.Common.{◌≡◌, ◌++◌, drop}
use Rattle.std.specs.List.{flat_map}
use Rattle.chc_print.specs.Prefix.{ctor_names}
use Rattle.chc_print.proofs.prefix.add_constructors.Given as goal

abbrev pub invariant-loop-ctor : goal.invariant-loop-ctor
invariant-loop-ctor l = l.used ++ flat_map ctor_names (drop l.ctor-index l.ctors) ≡ l.initial.used ++ flat_map ctor_names l.ctors
