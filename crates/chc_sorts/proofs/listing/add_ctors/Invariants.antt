use Rattle.std.proofs.Common.{◌≡◌, ◌++◌, take, drop, true}
use Rattle.std.specs.List.{flat_map, list_all}
use Rattle.chc_sorts.specs.Names.{each_from}
use Rattle.chc_sorts.specs.Functions.{functions_of}
use Rattle.chc_sorts.specs.Listing.{AreFresh, names_of, ctor_names, is_short}
use Rattle.chc_sorts.proofs.listing.add_ctors.Given as goal

abbrev pub invariant-loop-c : goal.invariant-loop-c
invariant-loop-c l = (l.table ≡ l.initial.table ++ each_from (functions_of l.d) 0 (take l.c l.ctors)) × AreFresh (names_of l.table) (flat_map ctor_names (drop l.c l.ctors)) × (list_all is_short (drop l.c l.ctors) ≡ true)
