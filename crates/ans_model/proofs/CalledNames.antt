-- The names of definitions by number: that of the predicate, or the next one of those for the others.
use Rattle.std.proofs.Common.{◌≡◌, ◌∙◌, sym, ap, refl, ℕ, zero, suc, ◌+◌, ◌<◌, cond, List, [], ◌∷◌, length, Option, Some, None, slice_get, arith}
use Rattle.std.specs.Prelude.{count_by, is_none}
use Rattle.std.proofs.lemmas.List.Recursion.{is_count_by}
use Rattle.chc_elab.proofs.Readings.{none_some}
use Rattle.chc_print.specs.Texts.{name_at}
use Rattle.chc_state.proofs.Places.{same_element}
use Rattle.ans_model.specs.Texts.{called}

-- how many of the first owners, so many, are none
abbrev pub others_before : List (Option ℕ) → ℕ → ℕ
others_before [] k = 0
others_before (None ∷ owners) zero = 0
others_before (None ∷ owners) (suc k) = 1 + others_before owners k
others_before (Some p ∷ owners) zero = 0
others_before (Some p ∷ owners) (suc k) = others_before owners k

-- how many of all are none
abbrev others : List (Option ℕ) → ℕ
others [] = 0
others (None ∷ owners) = 1 + others owners
others (Some p ∷ owners) = others owners

others_counted : (owners : List (Option ℕ)) → others owners ≡ count_by is_none owners
others_counted = is_count_by others is_none refl step
  where
    step : (o : Option ℕ) (owners : List (Option ℕ)) → others (o ∷ owners) ≡ cond (is_none o) (1 + others owners) (others owners)
    step None owners = refl
    step (Some p) owners = refl

before_all : (owners : List (Option ℕ)) (k : ℕ) → slice_get owners k ≡ Some None → others_before owners k < others owners
before_all [] k at = absurd (none_some None at)
before_all (None ∷ owners) zero at = omega arith
before_all (None ∷ owners) (suc k) at = omega (arith, before_all owners k at)
before_all (Some p ∷ owners) zero at = absurd (owned_other p (same_element (Some p) None at))
  where
    owned_other : (p : ℕ) → Some p ≡ None → ⊥
    owned_other p e = cc
before_all (Some p ∷ owners) (suc k) at = before_all owners k at

-- there is a name for each of them
pub others_within : (owners : List (Option ℕ)) (k : ℕ) → slice_get owners k ≡ Some None → others_before owners k < count_by is_none owners
others_within owners k at = omega (arith, before_all owners k at, others_counted owners)

-- a later one has a later name
pub others_rise : (owners : List (Option ℕ)) (i j : ℕ) → slice_get owners i ≡ Some None → i < j → others_before owners i < others_before owners j
others_rise [] i j at low = absurd (none_some None at)
others_rise (o ∷ owners) i zero at low = absurd (omega (arith, low))
others_rise (None ∷ owners) zero (suc j) at low = omega arith
others_rise (None ∷ owners) (suc i) (suc j) at low = let less : i < j = omega (arith, low) in omega (arith, others_rise owners i j at less)
others_rise (Some p ∷ owners) zero (suc j) at low = absurd (owned_other p (same_element (Some p) None at))
  where
    owned_other : (p : ℕ) → Some p ≡ None → ⊥
    owned_other p e = cc
others_rise (Some p ∷ owners) (suc i) (suc j) at low = others_rise owners i j at (omega (arith, low))

module _ (preds lifts : List (List ℕ)) where
  pub called_count : (n : ℕ) (owners : List (Option ℕ)) → length (called preds lifts n owners) ≡ length owners
  called_count n [] = refl
  called_count n (None ∷ owners) = ap suc (called_count (n + 1) owners)
  called_count n (Some p ∷ owners) = ap suc (called_count n owners)

  other_owner : (p : ℕ) → ◌≡◌ {A = Option ℕ} None (Some p) → ⊥
  other_owner p e = cc

  -- a predicate's definition has its name
  pub called_owned : (n : ℕ) (owners : List (Option ℕ)) (k p : ℕ) → slice_get owners k ≡ Some (Some p) → slice_get (called preds lifts n owners) k ≡ Some (name_at preds p)
  called_owned n [] k p at = absurd (none_some (Some p) at)
  called_owned n (None ∷ owners) zero p at = absurd (other_owner p (same_element None (Some p) at))
  called_owned n (None ∷ owners) (suc k) p at = called_owned (n + 1) owners k p at
  called_owned n (Some q ∷ owners) zero p at = ap (λ m. Some (name_at preds m)) (same_element q p (same_element (Some q) (Some p) at))
  called_owned n (Some q ∷ owners) (suc k) p at = called_owned n owners k p at

  -- another one has the next name of those for the others
  pub called_other : (n : ℕ) (owners : List (Option ℕ)) (k : ℕ) → slice_get owners k ≡ Some None → slice_get (called preds lifts n owners) k ≡ Some (name_at lifts (n + others_before owners k))
  called_other n [] k at = absurd (none_some None at)
  called_other n (None ∷ owners) zero at = ap (λ m. Some (name_at lifts m)) (omega arith)
  called_other n (None ∷ owners) (suc k) at =
      called_other (n + 1) owners k at ∙ ap (λ m. Some (name_at lifts m)) (let e : n + 1 + others_before owners k ≡ n + (1 + others_before owners k) = omega arith in e)
  called_other n (Some q ∷ owners) zero at = absurd (other_owner q (sym (same_element (Some q) None at)))
  called_other n (Some q ∷ owners) (suc k) at = called_other n owners k at
