-- Members of lists, by the recursion `In`.
use Rattle.std.proofs.Common.{◌≡◌, ℕ, zero, suc, ◌<◌, arith, length, Some, None, Bool, true, false, List, [], ◌∷◌, inl, inr, refl, sym, ap, ◌∙◌}
use Rattle.std.specs.Prelude.{slice_get}
use Rattle.std.specs.List.{filter, list_any, list_all}
use Rattle.std.proofs.lemmas.Bool.{and_parts, or_left, or_right, or_parts, or_from, and_from, false≢true, cases_Bool}
use Rattle.chc_state.specs.Meaning.{In}

-- an element at a place
pub In-at : {X : Type 0} (xs : List X) (k : ℕ) (x : X) → slice_get xs k ≡ Some x → In x xs
In-at [] k x e = absurd (none_some x e)
  where
    none_some : {X : Type 0} (x : X) → None ≡ Some x → ⊥
    none_some x e = cc
In-at (y ∷ xs) zero x e = inl (same y x e)
  where
    same : {X : Type 0} (y x : X) → Some y ≡ Some x → x ≡ y
    same y x e = cc
In-at (y ∷ xs) (suc k) x e = inr (In-at xs k x e)

-- what passes at each place, passes
pub all_from_places : {X : Type 0} (test : X → Bool) (xs : List X) → ((k : ℕ) → k < length xs → (x : X) → slice_get xs k ≡ Some x → test x ≡ true) → list_all test xs ≡ true
all_from_places test [] h = refl
all_from_places test (x ∷ xs) h =
    and_from (test x) (list_all test xs) (h zero (omega arith) x refl) (all_from_places test xs (λ k inside y e. h (suc k) (omega arith) y e))

module _ {X : Type 0} (test : X → Bool) where
  -- a kept member
  pub In-filter : (x : X) (ys : List X) → test x ≡ true → In x ys → In x (filter test ys)
  In-filter x [] e i = i
  In-filter x (y ∷ ys) e (inl same) = let h : test y ≡ true = ap test (sym same) ∙ e in rw h (inl same)
  In-filter x (y ∷ ys) e (inr i) = elim (cases_Bool (test y)) [ inl h ↦ rw h (inr (In-filter x ys e i)) | inr h ↦ rw h (In-filter x ys e i) ]

  -- what is kept was a member
  pub In-filtered : (x : X) (ys : List X) → In x (filter test ys) → In x ys
  In-filtered x [] i = i
  In-filtered x (y ∷ ys) i =
      elim (cases_Bool (test y)) [
        | inl h ↦ let j : In x (y ∷ filter test ys) = rw h at i in elim j [ inl same ↦ inl same | inr k ↦ inr (In-filtered x ys k) ]
        | inr h ↦ let j : In x (filter test ys) = rw h at i in inr (In-filtered x ys j)
      ]

  -- what is kept passes
  pub kept-passes : (x : X) (ys : List X) → In x (filter test ys) → test x ≡ true
  kept-passes x [] i = absurd i
  kept-passes x (y ∷ ys) i =
      elim (cases_Bool (test y)) [
        | inl h ↦ let j : In x (y ∷ filter test ys) = rw h at i in elim j [ inl same ↦ ap test same ∙ h | inr k ↦ kept-passes x ys k ]
        | inr h ↦ let j : In x (filter test ys) = rw h at i in kept-passes x ys j
      ]

  pub all-at : (x : X) (ys : List X) → list_all test ys ≡ true → In x ys → test x ≡ true
  all-at x [] h i = absurd i
  all-at x (y ∷ ys) h (inl same) = ap test same ∙ (and_parts (test y) (list_all test ys) h).0
  all-at x (y ∷ ys) h (inr i) = all-at x ys (and_parts (test y) (list_all test ys) h).1 i

  pub any-at : (x : X) (ys : List X) → In x ys → test x ≡ true → list_any test ys ≡ true
  any-at x [] i h = absurd i
  any-at x (y ∷ ys) (inl same) h = or_left (test y) (list_any test ys) (ap test (sym same) ∙ h)
  any-at x (y ∷ ys) (inr i) h = or_right (test y) (list_any test ys) (any-at x ys i h)

  -- no member passes, so the list's test is false
  pub none-from : (ys : List X) → ((x : X) → In x ys → test x ≡ false) → list_any test ys ≡ false
  none-from [] h = refl
  none-from (y ∷ ys) h = or_from (test y) (list_any test ys) (h y (inl refl)) (none-from ys (λ x i. h x (inr i)))

  pub none-at : (x : X) (ys : List X) → list_any test ys ≡ false → In x ys → test x ≡ false
  none-at x [] h i = absurd i
  none-at x (y ∷ ys) h (inl same) = ap test same ∙ (or_parts (test y) (list_any test ys) h).0
  none-at x (y ∷ ys) h (inr i) = none-at x ys (or_parts (test y) (list_any test ys) h).1 i

  -- a list that passes has a member that does
  pub some-from : (ys : List X) → list_any test ys ≡ true → (x : X) × In x ys × (test x ≡ true)
  some-from [] h = absurd (false≢true h)
  some-from (y ∷ ys) h =
      elim (cases_Bool (test y)) [
        | inl e ↦ (y, inl refl, e)
        | inr e ↦ let rest : list_any test ys ≡ true = rw e at h in let found = some-from ys rest in (found.0, inr found.1, found.2)
      ]

  pub all-from : (ys : List X) → ((x : X) → In x ys → test x ≡ true) → list_all test ys ≡ true
  all-from [] h = refl
  all-from (y ∷ ys) h = and_from (test y) (list_all test ys) (h y (inl refl)) (all-from ys (λ x i. h x (inr i)))
