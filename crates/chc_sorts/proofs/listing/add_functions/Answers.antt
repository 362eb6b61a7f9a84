use Rattle.std.proofs.Common.{◌≡◌, ◌++◌, ◌∷◌, List, true, drop, ◌+◌, ap, sym, subst, ◌∙◌}
use Rattle.std.specs.List.{flat_map, list_all}
use Rattle.chc_sorts.specs.declared.data.Data.{Data}
use Rattle.chc_sorts.specs.declared.data.Ctor.{Ctor}
use Rattle.chc_sorts.specs.Functions.{functions_of}
use Rattle.chc_sorts.specs.Names.{each_from}
use Rattle.chc_sorts.specs.Listing.{AreFresh, names_of, ctor_names, data_names, rows_of, is_narrow}
use Rattle.chc_sorts.proofs.PassLaws.{drop_here}
use Rattle.chc_sorts.proofs.ListingLaws.{rows_more, fresh_parts, fresh_later, names_of_data, begins_more, begins_on, all_parts}
use Rattle.chc_sorts.proofs.listing.add_functions.Goals as goal

pub add_ctors-requires-clause-fresh : goal.add_ctors-requires-clause-fresh
add_ctors-requires-clause-fresh c =
    let x = c.index-datatypes-i.result in
    let ds = c.args.datatypes.now in
    let behind : AreFresh (names_of c.loop-i.table) (data_names x ++ flat_map data_names (drop (c.loop-i.i + 1) ds)) =
    subst (λ (l : List Data). AreFresh (names_of c.loop-i.table) (flat_map data_names l)) (drop_here ds c.loop-i.i x c.loop-i-test.true c.index-datatypes-i.is) c.loop-i.invariant.1 in
    subst (λ (ks : List Ctor). AreFresh (names_of c.loop-i.table) (flat_map ctor_names ks)) (sym c.as_slice.ensures)
    (fresh_parts (names_of c.loop-i.table) (data_names x) (flat_map data_names (drop (c.loop-i.i + 1) ds)) behind).0

pub returns-in_err-add_ctors-clause-begins : goal.returns-in_err-add_ctors-clause-begins
returns-in_err-add_ctors-clause-begins c =
    begins_on c.args.table.now c.loop-i.table c.add_ctors.new.table (begins_more c.args.table.now _ c.loop-i.table c.loop-i.invariant.0) c.add_ctors.ensures.begins

pub loop-i-preserved : goal.loop-i-preserved
loop-i-preserved c =
    let x = c.index-datatypes-i.result in
    let i = c.loop-i.i in
    let ds = c.args.datatypes.now in
    let there = drop_here ds i x c.loop-i-test.true c.index-datatypes-i.is in
    let behind : AreFresh (names_of c.loop-i.table) (data_names x ++ flat_map data_names (drop (i + 1) ds)) =
    subst (λ (l : List Data). AreFresh (names_of c.loop-i.table) (flat_map data_names l)) there c.loop-i.invariant.1 in
    let narrow : list_all is_narrow (x ∷ drop (i + 1) ds) ≡ true = ap (list_all is_narrow) (sym there) ∙ c.loop-i.invariant.2 in
    let more : c.add_ctors.new.table ≡ c.loop-i.table ++ rows_of (c.args.first + i) x =
    c.in_ok-add_ctors.ensures.added ∙ ap (λ (ks : List Ctor). c.loop-i.table ++ each_from (functions_of (c.args.first + i)) 0 ks) c.as_slice.ensures in (
      rows_more rows_of c.args.first ds i x c.args.table.now c.loop-i.table c.add_ctors.new.table c.loop-i-test.true c.index-datatypes-i.is c.loop-i.invariant.0 more,
      fresh_later c.loop-i.table c.add_ctors.new.table (rows_of (c.args.first + i) x) (data_names x) (flat_map data_names (drop (i + 1) ds)) more (names_of_data (c.args.first + i) x) behind,
      (all_parts is_narrow x (drop (i + 1) ds) narrow).1,
    )
