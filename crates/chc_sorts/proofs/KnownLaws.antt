-- The sorts of fields: those that a group declares name datatypes of the signature with the group, and those of before still do.
use Rattle.std.proofs.Common.{◌≡◌, ℕ, ◌+◌, ◌<◌, ◌≤◌, Bool, true, false, cond, ◌&&◌, nat_lt, List, [], ◌∷◌, ◌++◌, length, map, Option, Some, None, option_map, codes, refl, sym, ap, ◌∙◌, subst, arith}
use Rattle.std.specs.List.{list_all}
use Rattle.std.specs.Option.{unwrap_or}
use Rattle.std.specs.Str.{bytes_eq}
use Rattle.std.proofs.lemmas.Bool.Decides.{nat_tests}
use Rattle.std.proofs.lemmas.List.{length-append, length-map}
use Rattle.std.proofs.lemmas.List.Folds.{list_all-append}
use Rattle.std.proofs.lemmas.List.Quantifiers.{position-Some}
use Rattle.chc_sorts.specs.declared.sort.Sort.{Sort, Sort-F, fold-Sort, fold-roll-Sort}
use Rattle.chc_sorts.specs.declared.sort.Sort.TheVariants as sort
use Rattle.chc_sorts.specs.declared.spec.SortSpec.{SortSpec, SortSpec-F, roll-SortSpec, map-SortSpec, ind-SortSpec, fold-roll-SortSpec}
use Rattle.chc_sorts.specs.declared.spec.FieldSpec.{FieldSpec}
use Rattle.chc_sorts.specs.declared.spec.CtorSpec.{CtorSpec}
use Rattle.chc_sorts.specs.declared.spec.DataSpec.{DataSpec}
use Rattle.chc_sorts.specs.declared.data.Data.{Data}
use Rattle.chc_sorts.specs.declared.data.Ctor.{Ctor}
use Rattle.chc_sorts.specs.declared.data.Field.{Field}
use Rattle.chc_sorts.specs.Signature.{Signature}
use Rattle.chc_sorts.specs.Sorts.{is_declared_step, same_sort}
use Rattle.chc_sorts.specs.Names.{number_of}
use Rattle.chc_sorts.specs.Named.{array_over, sort_meant, meant_step}
use Rattle.chc_sorts.specs.Groups.{field_declared, ctor_declared, data_declared}
use Rattle.chc_sorts.specs.WellFounded.{is_field_known, is_ctor_known, is_data_known, are_fields_known}
use Rattle.chc_sorts.proofs.MarkLaws.{by_sort}
use Rattle.chc_sorts.proofs.SameSort.{both_true}

-- whether the sort names datatypes of the signature alone
abbrev is_known : Signature → Sort → Bool
is_known sig = fold-Sort Bool (is_declared_step sig)

-- by the variant of the sort
module _ (sig : Signature) where
  known-Bool : is_known sig sort.Bool ≡ true
  known-Bool = ap (is_known sig) (sym sort.rolls-Bool) ∙ fold-roll-Sort Bool (is_declared_step sig) Sort-F.Bool

  known-Int : is_known sig sort.Int ≡ true
  known-Int = ap (is_known sig) (sym sort.rolls-Int) ∙ fold-roll-Sort Bool (is_declared_step sig) Sort-F.Int

  known-Data : (d : ℕ) → is_known sig (sort.Data d) ≡ nat_lt d (length sig.datatypes)
  known-Data d = ap (is_known sig) (sym (sort.rolls-Data d)) ∙ fold-roll-Sort Bool (is_declared_step sig) (Sort-F.Data d)

  known-Array : (s : Sort) → is_known sig (sort.Array s) ≡ is_known sig s
  known-Array s = ap (is_known sig) (sym (sort.rolls-Array s)) ∙ fold-roll-Sort Bool (is_declared_step sig) (Sort-F.Array s)

below_more : (d m n : ℕ) → m ≤ n → nat_lt d m ≡ true → nat_lt d n ≡ true
below_more d m n l h = grind (arith, nat_tests)

below_from : (d m n : ℕ) → m ≤ n → d < m → nat_lt d n ≡ true
below_from d m n l h = grind (arith, nat_tests)

-- a test that passes implies another
all_along : {X : Type 0} (p q : X → Bool) → ((x : X) → p x ≡ true → q x ≡ true) → (xs : List X) → list_all p xs ≡ true → list_all q xs ≡ true
all_along p q f [] h = refl
all_along p q f (x ∷ xs) h =
    let b = both_true (p x) (list_all p xs) h in ap (λ c. c && list_all q xs) (f x b.0) ∙ all_along p q f xs b.1

-- a sort that is known stays so where there are more datatypes
module _ (sig new : Signature) (more : length sig.datatypes ≤ length new.datatypes) where
  still_known : (s : Sort) → is_known sig s ≡ true → is_known new s ≡ true
  still_known = by_sort (λ s. is_known sig s ≡ true → is_known new s ≡ true) (record {
    of_bool = λ h. known-Bool new;
    of_int = λ h. known-Int new;
    of_data = λ d h. known-Data new d ∙ below_more d (length sig.datatypes) (length new.datatypes) more (sym (known-Data sig d) ∙ h);
    of_array = λ s f h. known-Array new s ∙ f (sym (known-Array sig s) ∙ h);
  })

  fields_still_known : (ts : List Data) → list_all (is_data_known sig) ts ≡ true → list_all (is_data_known new) ts ≡ true
  fields_still_known =
      all_along (is_data_known sig) (is_data_known new) (λ (t : Data).
      all_along (is_ctor_known sig) (is_ctor_known new) (λ (k : Ctor).
      all_along (is_field_known sig) (is_field_known new) (λ (f : Field). still_known f.sort) k.fields) t.ctors)

-- what a written sort stands for is known, where there are as many datatypes as names
module _ (sig : Signature) (names : List (List ℕ)) (enough : length names ≤ length sig.datatypes) where
  abbrev IsKnown : Option Sort → Type 0
  IsKnown None = Unit {0}
  IsKnown (Some s) = is_known sig s ≡ true

  by_number : (name : List ℕ) (o : Option ℕ) → number_of names name ≡ o → IsKnown (option_map (λ d. sort.Data d) o)
  by_number name None e = tt
  by_number name (Some d) e = known-Data sig d ∙ below_from d (length names) (length sig.datatypes) enough (position-Some (bytes_eq name) names d [] e).0

  by_name : (name : List ℕ) (a b : Bool) → IsKnown (cond a (Some sort.Bool) (cond b (Some sort.Int) (option_map (λ d. sort.Data d) (number_of names name))))
  by_name name true b = known-Bool sig
  by_name name false true = known-Int sig
  by_name name false false = by_number name (number_of names name) refl

  of_elements : (e : Option Sort) → IsKnown e → (b : Bool) → IsKnown (cond b (option_map (λ t. sort.Array t) e) None)
  of_elements None h true = tt
  of_elements (Some t) h true = known-Array sig t ∙ h
  of_elements e h false = tt

  of_array : (i e : Option Sort) → IsKnown e → IsKnown (array_over i e)
  of_array None e h = tt
  of_array (Some s) e h = of_elements e h (same_sort s sort.Int)

  abbrev Meant : SortSpec → Type 0
  Meant s = IsKnown (sort_meant names s)

  abbrev Seen : Type 0
  Seen = (s : SortSpec) × Meant s

  at_level : (y : SortSpec-F Seen) → Meant (roll-SortSpec (map-SortSpec Seen SortSpec (λ (e : Seen). e.0) y))
  at_level (SortSpec-F.Named name) =
      subst IsKnown (sym (fold-roll-SortSpec (Option Sort) (meant_step names) (SortSpec-F.Named name)))
      (by_name name (bytes_eq name (codes "Bool")) (bytes_eq name (codes "Int")))
  at_level (SortSpec-F.Array i e) =
      subst IsKnown (sym (fold-roll-SortSpec (Option Sort) (meant_step names) (SortSpec-F.Array i.0 e.0)))
      (of_array (sort_meant names i.0) (sort_meant names e.0) e.1)

  meant_known : (s : SortSpec) → Meant s
  meant_known = ind-SortSpec Meant (λ x y e. subst (λ z. Meant (roll-SortSpec z)) e (at_level y))

  or_bool : (o : Option Sort) → IsKnown o → is_known sig (unwrap_or o sort.Bool) ≡ true
  or_bool None h = known-Bool sig
  or_bool (Some s) h = h

  all_mapped : {X Y : Type 0} (f : X → Y) (p : Y → Bool) → ((x : X) → p (f x) ≡ true) → (xs : List X) → list_all p (map f xs) ≡ true
  all_mapped f p h [] = refl
  all_mapped f p h (x ∷ xs) = ap (λ b. b && list_all p (map f xs)) (h x) ∙ all_mapped f p h xs

  -- the fields that a group declares
  group_known : (group : List DataSpec) → list_all (is_data_known sig) (map (data_declared names) group) ≡ true
  group_known =
      all_mapped (data_declared names) (is_data_known sig) (λ (t : DataSpec).
      all_mapped (ctor_declared names) (is_ctor_known sig) (λ (k : CtorSpec).
      all_mapped (field_declared names) (is_field_known sig) (λ (f : FieldSpec). or_bool (sort_meant names f.sort) (meant_known f.sort)) k.fields) t.ctors)

-- the fields of a signature with a group
pub known_with_group : (ds es : List Data) (gs hs : List ℕ) (names : List (List ℕ)) (group : List DataSpec) → es ≡ ds ++ map (data_declared names) group → length names ≤ length ds + length group
    → are_fields_known (record { datatypes = ds; groups = gs }) ≡ true → are_fields_known (record { datatypes = es; groups = hs }) ≡ true
known_with_group ds es gs hs names group e few before =
    ap (list_all (is_data_known new)) e ∙ list_all-append (is_data_known new) ds (map (data_declared names) group)
    ∙ ap (λ b. b && list_all (is_data_known new) (map (data_declared names) group)) (fields_still_known old new (omega (arith, count)) ds before)
    ∙ group_known new names (omega (arith, count, few)) group
  where
    old : Signature
    old = record { datatypes = ds; groups = gs }

    new : Signature
    new = record { datatypes = es; groups = hs }

    count : length es ≡ length ds + length group
    count = omega (arith, ap length e, length-append ds (map (data_declared names) group), length-map group (data_declared names))
