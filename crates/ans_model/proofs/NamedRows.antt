-- What is declared by the first definitions: each stands under its name, where the names differ.
use Rattle.std.proofs.Common.{◌≡◌, ◌∙◌, sym, ap, refl, subst, ℕ, zero, suc, ◌+◌, ◌<◌, ◌≤◌, Bool, true, false, cond, List, [], ◌∷◌, ◌++◌, length, Some, None, slice_get, arith}
use Rattle.std.specs.Str.{bytes_eq}
use Rattle.std.proofs.lemmas.Slice.Eq.{bytes_eq-Decides}
use Rattle.chc_sorts.specs.Names.{look_up}
use Rattle.chc_elab.specs.declared.symbols.Symbol.{Symbol}
use Rattle.chc_elab.specs.declared.symbols.Symbol.TheVariants as symbol
use Rattle.chc_elab.proofs.Readings.{none_some}
use Rattle.chc_state.specs.declared.defs.Def.{Def}
use Rattle.chc_state.specs.Definitions.{fun_sort}
use Rattle.chc_state.proofs.Places.{same_element}
use Rattle.chc_print.specs.Texts.{name_at}

pub bytes_other : (xs ys : List ℕ) → (xs ≡ ys → ⊥) → bytes_eq xs ys ≡ false
bytes_other xs ys other = by (bytes_eq xs ys) refl
  where
    by : (b : Bool) → bytes_eq xs ys ≡ b → bytes_eq xs ys ≡ false
    by true e = absurd (other ((bytes_eq-Decides xs ys).0 e))
    by false e = e

module _ (calls : List (List ℕ)) where
  -- the rows of definitions, of which the first has the number n
  abbrev pub rows_from : ℕ → List Def → List (List ℕ × Symbol)
  rows_from n [] = []
  rows_from n (d ∷ ds) = (name_at calls n, symbol.Def n (fun_sort d)) ∷ rows_from (n + 1) ds

  -- one more has one row more
  pub rows_more : (n : ℕ) (ds : List Def) (d : Def) → rows_from n (ds ++ d ∷ []) ≡ rows_from n ds ++ (name_at calls (n + length ds), symbol.Def (n + length ds) (fun_sort d)) ∷ []
  rows_more n [] d = let here : n ≡ n + 0 = omega arith in ap (λ k. (name_at calls k, symbol.Def k (fun_sort d)) ∷ []) here
  rows_more n (e ∷ ds) d =
      let there : n + 1 + length ds ≡ n + length (e ∷ ds) = omega arith in
      ap (λ rows. (name_at calls n, symbol.Def n (fun_sort e)) ∷ rows)
      (rows_more (n + 1) ds d ∙ ap (λ k. rows_from (n + 1) ds ++ (name_at calls k, symbol.Def k (fun_sort d)) ∷ []) there)

  -- no definition of these numbers has the name
  abbrev pub HasNone : ℕ → ℕ → List ℕ → Type 0
  HasNone n count name = (k : ℕ) → n ≤ k → k < n + count → name_at calls k ≡ name → ⊥

  rest_has_none : (n count : ℕ) (name : List ℕ) → HasNone n (suc count) name → HasNone (n + 1) count name
  rest_has_none n count name h = λ k low high. h k (omega arith) (omega arith)

  pub rows_lack : (n : ℕ) (ds : List Def) (name : List ℕ) → HasNone n (length ds) name → look_up (rows_from n ds) name ≡ None
  rows_lack n [] name h = refl
  rows_lack n (d ∷ ds) name h =
      ap (λ b. cond b (Some (symbol.Def n (fun_sort d))) (look_up (rows_from (n + 1) ds) name)) (bytes_other (name_at calls n) name (h n (omega arith) (omega arith)))
      ∙ rows_lack (n + 1) ds name (rest_has_none n (length ds) name h)

  -- a definition's name stands for it, where no earlier one has it
  pub rows_have : (n : ℕ) (ds : List Def) (k : ℕ) (d : Def) → slice_get ds k ≡ Some d → HasNone n k (name_at calls (n + k))
      → look_up (rows_from n ds) (name_at calls (n + k)) ≡ Some (symbol.Def (n + k) (fun_sort d))
  rows_have n [] k d at h = absurd (none_some d at)
  rows_have n (e ∷ ds) zero d at h =
      let here : n ≡ n + 0 = omega arith in
      ap (λ b. cond b (Some (symbol.Def n (fun_sort e))) (look_up (rows_from (n + 1) ds) (name_at calls (n + 0))))
      ((bytes_eq-Decides (name_at calls n) (name_at calls (n + 0))).1 (ap (name_at calls) here))
      ∙ (λ i. Some (symbol.Def (here i) (fun_sort (same_element e d at i))))
  rows_have n (e ∷ ds) (suc k) d at h =
      let there : n + 1 + k ≡ n + suc k = omega arith in
      let name : List ℕ = name_at calls (n + suc k) in
      let first : bytes_eq (name_at calls n) name ≡ false = bytes_other (name_at calls n) name (h n (omega arith) (omega arith)) in
      ap (λ b. cond b (Some (symbol.Def n (fun_sort e))) (look_up (rows_from (n + 1) ds) name)) first
      ∙ subst (λ j. look_up (rows_from (n + 1) ds) (name_at calls j) ≡ Some (symbol.Def j (fun_sort d))) there
      (rows_have (n + 1) ds k d at (subst (λ j. HasNone (n + 1) k (name_at calls j)) (sym there) (rest_has_none n k name h)))
