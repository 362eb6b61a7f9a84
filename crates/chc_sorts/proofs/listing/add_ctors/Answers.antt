use Rattle.std.proofs.Common.{◌≡◌, ◌++◌, ◌∷◌, List, true, drop, ◌+◌, ap, sym, subst, ◌∙◌, arith}
use Rattle.std.specs.List.{flat_map, list_all}
use Rattle.chc_sorts.specs.declared.data.Ctor.{Ctor}
use Rattle.chc_sorts.specs.Functions.{functions_of}
use Rattle.chc_sorts.specs.Listing.{AreFresh, names_of, ctor_names, is_short}
use Rattle.chc_sorts.proofs.PassLaws.{drop_here}
use Rattle.chc_sorts.proofs.ListingLaws.{rows_more, fresh_parts, fresh_later, names_of_ctor, begins_more, begins_on, all_parts}
use Rattle.chc_sorts.proofs.listing.add_ctors.Goals as goal

pub add_ctor-requires-clause-fresh : goal.add_ctor-requires-clause-fresh
add_ctor-requires-clause-fresh c =
    let x = c.index-ctors-c.result in
    let ctors = c.args.ctors.now in
    let behind : AreFresh (names_of c.loop-c.table) (ctor_names x ++ flat_map ctor_names (drop (c.loop-c.c + 1) ctors)) =
    subst (λ (l : List Ctor). AreFresh (names_of c.loop-c.table) (flat_map ctor_names l)) (drop_here ctors c.loop-c.c x c.loop-c-test.true c.index-ctors-c.is) c.loop-c.invariant.1 in
    (fresh_parts (names_of c.loop-c.table) (ctor_names x) (flat_map ctor_names (drop (c.loop-c.c + 1) ctors)) behind).0

pub returns-in_err-add_ctor-clause-begins : goal.returns-in_err-add_ctor-clause-begins
returns-in_err-add_ctor-clause-begins c =
    begins_on c.args.table.now c.loop-c.table c.add_ctor.new.table (begins_more c.args.table.now _ c.loop-c.table c.loop-c.invariant.0) c.add_ctor.ensures.begins

pub loop-c-preserved : goal.loop-c-preserved
loop-c-preserved c =
    let x = c.index-ctors-c.result in
    let i = c.loop-c.c in
    let ctors = c.args.ctors.now in
    let here : i ≡ 0 + i = omega arith in
    let there = drop_here ctors i x c.loop-c-test.true c.index-ctors-c.is in
    let behind : AreFresh (names_of c.loop-c.table) (ctor_names x ++ flat_map ctor_names (drop (i + 1) ctors)) =
    subst (λ (l : List Ctor). AreFresh (names_of c.loop-c.table) (flat_map ctor_names l)) there c.loop-c.invariant.1 in
    let short : list_all is_short (x ∷ drop (i + 1) ctors) ≡ true = ap (list_all is_short) (sym there) ∙ c.loop-c.invariant.2 in (
      rows_more (functions_of c.args.d) 0 ctors i x c.args.table.now c.loop-c.table c.add_ctor.new.table c.loop-c-test.true c.index-ctors-c.is c.loop-c.invariant.0
          (c.in_ok-add_ctor.ensures.added ∙ ap (λ j. c.loop-c.table ++ functions_of c.args.d j x) here),
      fresh_later c.loop-c.table c.add_ctor.new.table (functions_of c.args.d i x) (ctor_names x) (flat_map ctor_names (drop (i + 1) ctors)) c.in_ok-add_ctor.ensures.added (names_of_ctor c.args.d i x) behind,
      (all_parts is_short x (drop (i + 1) ctors) short).1,
    )
