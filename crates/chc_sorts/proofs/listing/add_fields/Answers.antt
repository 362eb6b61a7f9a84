use Rattle.std.proofs.Common.{◌≡◌, ◌++◌, ◌∷◌, [], ℕ, List, map, drop, ◌+◌, ap, subst, ◌∙◌, refl, arith}
use Rattle.chc_sorts.specs.declared.data.Field.{Field}
use Rattle.chc_sorts.specs.declared.meaning.Meaning.TheVariants as meaning
use Rattle.chc_sorts.specs.Listing.{AreFresh, names_of}
use Rattle.chc_sorts.proofs.PassLaws.{drop_here}
use Rattle.chc_sorts.proofs.ListingLaws.{rows_more, fresh_later}
use Rattle.chc_sorts.proofs.listing.add_fields.Goals as goal

pub loop-i-preserved : goal.loop-i-preserved
loop-i-preserved c =
    let x = c.index-fields-i.result in
    let i = c.loop-i.i in
    let fields = c.args.fields.now in
    let here : i ≡ 0 + i = omega arith in
    let more : c.add.new.self ≡ c.loop-i.table ++ (x.name, meaning.Get c.args.d c.args.c i) ∷ [] = c.in_ok-add.ensures.added ∙ ap (λ (n : List ℕ). c.loop-i.table ++ (n, meaning.Get c.args.d c.args.c i) ∷ []) c.as_slice.ensures in
    let behind : AreFresh (names_of c.loop-i.table) ((x.name ∷ []) ++ map (λ (f : Field). f.name) (drop (i + 1) fields)) =
    subst (λ (l : List Field). AreFresh (names_of c.loop-i.table) (map (λ (f : Field). f.name) l)) (drop_here fields i x c.loop-i-test.true c.index-fields-i.is) c.loop-i.invariant.1 in (
      rows_more (λ j (f : Field). (f.name, meaning.Get c.args.d c.args.c j) ∷ []) 0 fields i x c.args.table.now c.loop-i.table c.add.new.self c.loop-i-test.true c.index-fields-i.is c.loop-i.invariant.0
          (more ∙ ap (λ j. c.loop-i.table ++ (x.name, meaning.Get c.args.d c.args.c j) ∷ []) here),
      fresh_later c.loop-i.table c.add.new.self ((x.name, meaning.Get c.args.d c.args.c i) ∷ []) (x.name ∷ []) (map (λ (f : Field). f.name) (drop (i + 1) fields)) more refl behind,
    )
