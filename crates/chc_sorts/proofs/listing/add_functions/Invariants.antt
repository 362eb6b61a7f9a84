use Rattle.std.proofs.Common.{◌≡◌, ◌++◌, take, drop, true}
use Rattle.std.specs.List.{flat_map, list_all}
use Rattle.chc_sorts.specs.Names.{each_from}
use Rattle.chc_sorts.specs.Listing.{AreFresh, names_of, data_names, rows_of, is_narrow}
use Rattle.chc_sorts.proofs.listing.add_functions.Given as goal

abbrev pub invariant-loop-i : goal.invariant-loop-i
invariant-loop-i l = (l.table ≡ l.initial.table ++ each_from rows_of l.first (take l.i l.datatypes)) × AreFresh (names_of l.table) (flat_map data_names (drop l.i l.datatypes)) × (list_all is_narrow (drop l.i l.datatypes) ≡ true)
