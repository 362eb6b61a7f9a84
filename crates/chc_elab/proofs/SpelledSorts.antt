-- The sorts that trees spell fit the signature.
use Rattle.std.proofs.Common.{◌≡◌, ◌∙◌, sym, ap, subst, refl, arith, ℕ, Bool, true, false, ◌&&◌, cond, nat_lt, List, [], length, map, Option, Some, None, Result, Ok, Err, codes, option_map, option_and_then}
use Rattle.std.specs.Str.{bytes_eq}
use Rattle.std.proofs.lemmas.Bool.{ltb-false, ltb-true, lt-ltb}
use Rattle.std.proofs.lemmas.List.{length-map}
use Rattle.std.proofs.lemmas.List.Quantifiers.{position-Some}
use Rattle.chc_sorts.specs.declared.data.Data.{Data}
use Rattle.chc_sorts.specs.declared.refusal.SigErr.{SigErr}
use Rattle.chc_sorts.specs.declared.refusal.SigErr.TheVariants as refusal
use Rattle.chc_sorts.specs.declared.sort.Sort.{Sort}
use Rattle.chc_sorts.specs.declared.sort.Sort.TheVariants as sort
use Rattle.chc_sorts.specs.declared.spec.SortSpec.{SortSpec, SortSpec-F, roll-SortSpec, map-SortSpec, ind-SortSpec, fold-roll-SortSpec}
use Rattle.chc_sorts.specs.declared.spec.SortSpec.TheVariants as spec
use Rattle.chc_sorts.specs.Names.{number_of}
use Rattle.chc_sorts.specs.Named.{datatype_names, sort_named, array_over, meant_step, sort_meant, most_depth, held_to_depth, where_known, sort_read, first_unknown, names_in}
use Rattle.chc_sorts.specs.Signature.{Signature}
use Rattle.chc_sorts.specs.Sorts.{same_sort, sort_depth, sort_fits}
use Rattle.chc_sorts.proofs.SameSort.{both_true, sort_depth-Array}
use Rattle.chc_sexpr.specs.declared.tree.Tree.{Tree, out-Tree}
use Rattle.chc_sexpr.specs.declared.fault.Fault.TheVariants.{BadCommand, UnknownSort, ArrayIndex, SortTooDeep}
use Rattle.chc_terms.specs.Sorted.{is_declared, element_of}
use Rattle.chc_terms.proofs.OperatorShapes.{element_from}
use Rattle.chc_terms.proofs.SortTests.{is_declared-Bool, is_declared-Int, is_declared-Data, is_declared-Array}
use Rattle.chc_elab.specs.Sites.{Setting}
use Rattle.chc_elab.specs.SortTrees.{place_at, spec_of, sort_at}
use Rattle.chc_elab.specs.Heads.{sort_tree}
use Rattle.chc_elab.proofs.Readings.{some_same, none_some, ok_same, err_ok, bind_ok}

-- a sort without a fault
spelled_ok : (place : ℕ) (r : Result Sort SigErr) (s : Sort) → sort_at place r ≡ Ok s → r ≡ Ok s
spelled_ok place (Ok t) s h = ap (λ t. Ok t) (ok_same t s h)
spelled_ok place (Err (refusal.UnknownSort name)) s h = absurd (err_ok (record { place = place; fault = UnknownSort; name = name }) s h)
spelled_ok place (Err refusal.ArrayIndex) s h = absurd (err_ok (record { place = place; fault = ArrayIndex; name = [] }) s h)
spelled_ok place (Err refusal.SortTooDeep) s h = absurd (err_ok (record { place = place; fault = SortTooDeep; name = [] }) s h)
spelled_ok place (Err (refusal.NameTaken name)) s h = absurd (err_ok (record { place = place; fault = BadCommand; name = [] }) s h)
spelled_ok place (Err (refusal.TooMany limit)) s h = absurd (err_ok (record { place = place; fault = BadCommand; name = [] }) s h)
spelled_ok place (Err (refusal.NotWellFounded name)) s h = absurd (err_ok (record { place = place; fault = BadCommand; name = [] }) s h)
spelled_ok place (Err refusal.NoMemory) s h = absurd (err_ok (record { place = place; fault = BadCommand; name = [] }) s h)

-- a sort that is read is the one that is meant, and not too deep
refused_ok : (e : SigErr) (s : Sort) → ◌≡◌ {A = Result Sort SigErr} (Err e) (Ok s) → ⊥
refused_ok e s h = cc

same_ok : (s t : Sort) → ◌≡◌ {A = Result Sort SigErr} (Ok s) (Ok t) → s ≡ t
same_ok s t h = cc

shallow : (o : Option Sort) (s : Sort) → held_to_depth o ≡ Ok s → (o ≡ Some s) × (nat_lt most_depth (sort_depth s) ≡ false)
shallow None s h = absurd (refused_ok refusal.ArrayIndex s h)
shallow (Some t) s h = by (nat_lt most_depth (sort_depth t)) refl h
  where
    by : (b : Bool) → nat_lt most_depth (sort_depth t) ≡ b → cond b (Err refusal.SortTooDeep) (Ok t) ≡ Ok s → (Some t ≡ Some s) × (nat_lt most_depth (sort_depth s) ≡ false)
    by true e h = absurd (refused_ok refusal.SortTooDeep s h)
    by false e h = let same = same_ok t s h in (ap (λ t. Some t) same, ap (λ t. nat_lt most_depth (sort_depth t)) (sym same) ∙ e)

known : (unknown : Option (List ℕ)) (o : Option Sort) (s : Sort) → where_known unknown o ≡ Ok s → held_to_depth o ≡ Ok s
known None o s h = h
known (Some name) o s h = absurd (refused_ok (refusal.UnknownSort name) s h)

module _ (sig : Signature) where
  abbrev names : List (List ℕ)
  names = datatype_names sig

  -- the sort that is meant names datatypes of the signature alone
  abbrev Meant : SortSpec → Type 0
  Meant p = (s : Sort) → sort_meant names p ≡ Some s → is_declared sig s ≡ true

  numbered : (name : List ℕ) (o : Option ℕ) → number_of names name ≡ o → (s : Sort) → option_map (λ d. sort.Data d) o ≡ Some s → is_declared sig s ≡ true
  numbered name None is s h = absurd (none_some s h)
  numbered name (Some d) is s h =
      let found = position-Some (bytes_eq name) names d name is in
      let many = length-map sig.datatypes (λ (t : Data). t.name) in
      subst (λ s. is_declared sig s ≡ true) (some_same (sort.Data d) s h) (is_declared-Data sig d ∙ lt-ltb d (length sig.datatypes) (omega (arith, found.0, many)))

  named : (name : List ℕ) (a b : Bool) (s : Sort) → cond a (Some sort.Bool) (cond b (Some sort.Int) (option_map (λ d. sort.Data d) (number_of names name))) ≡ Some s → is_declared sig s ≡ true
  named name true b s h = subst (λ s. is_declared sig s ≡ true) (some_same sort.Bool s h) (is_declared-Bool sig)
  named name false true s h = subst (λ s. is_declared sig s ≡ true) (some_same sort.Int s h) (is_declared-Int sig)
  named name false false s h = numbered name (number_of names name) refl s h

  at_name : (name : List ℕ) → Meant (spec.Named name)
  at_name name s h =
      let e = ap (sort_meant names) (sym (spec.rolls-Named name)) ∙ fold-roll-SortSpec (Option Sort) (meant_step names) (SortSpec-F.Named name) in
      named name (bytes_eq name (codes "Bool")) (bytes_eq name (codes "Int")) s (sym e ∙ h)

  over : (i e : Option Sort) (s : Sort) → ((t : Sort) → e ≡ Some t → is_declared sig t ≡ true) → array_over i e ≡ Some s → is_declared sig s ≡ true
  over None e s f h = absurd (none_some s h)
  over (Some i) e s f h = by (same_sort i sort.Int) e f h
    where
      by : (b : Bool) (e : Option Sort) → ((t : Sort) → e ≡ Some t → is_declared sig t ≡ true) → cond b (option_map (λ t. sort.Array t) e) None ≡ Some s → is_declared sig s ≡ true
      by true None f h = absurd (none_some s h)
      by true (Some t) f h = subst (λ s. is_declared sig s ≡ true) (some_same (sort.Array t) s h) (is_declared-Array sig t ∙ f t refl)
      by false e f h = absurd (none_some s h)

  at_array : (i e : SortSpec) → Meant e → Meant (spec.Array i e)
  at_array i e f s h =
      let is = ap (sort_meant names) (sym (spec.rolls-Array i e)) ∙ fold-roll-SortSpec (Option Sort) (meant_step names) (SortSpec-F.Array i e) in
      over (sort_meant names i) (sort_meant names e) s f (sym is ∙ h)

  abbrev Seen : Type 0
  Seen = (p : SortSpec) × Meant p

  at_level : (y : SortSpec-F Seen) → Meant (roll-SortSpec (map-SortSpec Seen SortSpec (λ (e : Seen). e.0) y))
  at_level (SortSpec-F.Named name) = subst Meant (sym (spec.rolls-Named name)) (at_name name)
  at_level (SortSpec-F.Array i e) = subst Meant (sym (spec.rolls-Array i.0 e.0)) (at_array i.0 e.0 e.1)

  meant : (p : SortSpec) → Meant p
  meant = ind-SortSpec Meant (λ x y e. subst (λ z. Meant (roll-SortSpec z)) e (at_level y))

  -- a sort fits where its datatypes are there and it isn't too deep
  fits : (s : Sort) → is_declared sig s ≡ true → nat_lt most_depth (sort_depth s) ≡ false → sort_fits sig s ≡ true
  fits s declared low =
      let depth = ltb-false most_depth (sort_depth s) low in
      ap (λ b. b && nat_lt (sort_depth s) 17) declared ∙ lt-ltb (sort_depth s) 17 (omega (arith, depth))

  -- the element sort of one that fits
  pub element_fits : (s e : Sort) → sort_fits sig s ≡ true → element_of s ≡ Some e → sort_fits sig e ≡ true
  element_fits s e h is =
      let array = element_from s e is in
      let parts = both_true (is_declared sig s) (nat_lt (sort_depth s) 17) h in
      let declared = sym (is_declared-Array sig e) ∙ ap (is_declared sig) (sym array) ∙ parts.0 in
      let deep = ap sort_depth array ∙ sort_depth-Array e in
      let low = ltb-true (sort_depth s) 17 parts.1 in
      ap (λ b. b && nat_lt (sort_depth e) 17) declared ∙ lt-ltb (sort_depth e) 17 (omega arith)

pub spelled_fits : (setting : Setting) (t : Tree) (s : Sort) → sort_tree setting t ≡ Ok s → sort_fits setting.sig s ≡ true
spelled_fits setting t s h =
    let names = datatype_names setting.sig in
    let (p, spelled, rest) = bind_ok (spec_of t) (λ p. sort_at (place_at (out-Tree t)) (sort_read names p)) s h in
    let read = spelled_ok (place_at (out-Tree t)) (sort_read names p) s rest in
    let (is, low) = shallow (sort_meant names p) s (known (first_unknown names (names_in p)) (sort_meant names p) s read) in
    fits setting.sig s (meant setting.sig p s is) low
