-- Tables without two rows of one name.
use Rattle.std.proofs.Common.{◌≡◌, ℕ, zero, suc, Bool, true, false, not, ◌&&◌, ◌||◌, List, [], ◌∷◌, map, Some, refl, sym, ap, ◌∙◌}
use Rattle.std.specs.List.{slice_get}
use Rattle.std.specs.Str.{bytes_eq}
use Rattle.std.proofs.lemmas.Bool.{false≢true}
use Rattle.std.proofs.lemmas.Slice.Eq.{bytes_eq-Decides}
use Rattle.chc_sorts.specs.Names.{has_name}
use Rattle.chc_sorts.proofs.SameSort.{both_true}

or_true : (b : Bool) → (b || true) ≡ true
or_true true = refl
or_true false = refl

module _ {X : Type 0} where
  abbrev pub row_names : List (List ℕ × X) → List (List ℕ)
  row_names = map (λ (row : List ℕ × X). row.0)

  -- whether no row has the name of a later one
  abbrev pub are_apart : List (List ℕ × X) → Bool
  are_apart [] = true
  are_apart (row ∷ rows) = not (has_name (row_names rows) row.0) && are_apart rows

  there : (rows : List (List ℕ × X)) (name : List ℕ) (j : ℕ) (b : List ℕ × X) → slice_get rows j ≡ Some b → name ≡ b.0 → has_name (row_names rows) name ≡ true
  there [] name j b h e = cc
  there (row ∷ rows) name zero b h e =
      let same : row ≡ b = cc in
      let equal : name ≡ row.0 = e ∙ ap (λ (r : List ℕ × X). r.0) (sym same) in
      rw ((bytes_eq-Decides name row.0).1 equal) refl
  there (row ∷ rows) name (suc j) b h e = rw (there rows name j b h e) (or_true (bytes_eq name row.0))

  not_there : (rows : List (List ℕ × X)) (name : List ℕ) (j : ℕ) (b : List ℕ × X) → not (has_name (row_names rows) name) ≡ true → slice_get rows j ≡ Some b → name ≡ b.0 → ⊥
  not_there rows name j b new h e = false≢true (ap not (sym (there rows name j b h e)) ∙ new)

  -- the test shows it
  pub apart_from_test : (rows : List (List ℕ × X)) → are_apart rows ≡ true → (i j : ℕ) (a b : List ℕ × X) → slice_get rows i ≡ Some a → slice_get rows j ≡ Some b → a.0 ≡ b.0 → i ≡ j
  apart_from_test [] t i j a b p q e = cc
  apart_from_test (row ∷ rows) t zero zero a b p q e = refl
  apart_from_test (row ∷ rows) t zero (suc j) a b p q e =
      let same : row ≡ a = cc in
      absurd (not_there rows row.0 j b (both_true _ _ t).0 q (ap (λ (r : List ℕ × X). r.0) same ∙ e))
  apart_from_test (row ∷ rows) t (suc i) zero a b p q e =
      let same : row ≡ b = cc in
      absurd (not_there rows row.0 i a (both_true _ _ t).0 p (ap (λ (r : List ℕ × X). r.0) same ∙ sym e))
  apart_from_test (row ∷ rows) t (suc i) (suc j) a b p q e = ap suc (apart_from_test rows (both_true _ _ t).1 i j a b p q e)
