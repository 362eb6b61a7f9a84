-- Rows of a map from names, seen by the bytes of their keys.
use Rattle.std.proofs.Common.{◌≡◌, ℕ, Bool, true, false, ◌||◌, cond, List, [], ◌∷◌, ◌++◌, map, Option, Some, None, refl, ap, sym, ◌∙◌, true≢false}
use Rattle.std.specs.Prelude.{if◌then◌else◌}
use Rattle.std.specs.List.{list_any}
use Rattle.std.specs.Str.{bytes_eq}
use Rattle.std.specs.Map.{keys_of, lookup}
use Rattle.std.proofs.lemmas.Slice.Eq.{bytes_eq-Decides}
use Rattle.indexmap.specs.IndexMap.{insert_entry}
use Rattle.chc_sorts.specs.Names.{look_up}

-- bytes compare the same in either order
bytes_eq-sym : (xs ys : List ℕ) → bytes_eq xs ys ≡ bytes_eq ys xs
bytes_eq-sym xs ys = by (bytes_eq xs ys) (bytes_eq ys xs) refl refl
  where
    by : (b d : Bool) → bytes_eq xs ys ≡ b → bytes_eq ys xs ≡ d → b ≡ d
    by true true p q = refl
    by true false p q = sym ((bytes_eq-Decides ys xs).1 (sym ((bytes_eq-Decides xs ys).0 p))) ∙ q
    by false true p q = sym p ∙ (bytes_eq-Decides xs ys).1 (sym ((bytes_eq-Decides ys xs).0 q))
    by false false p q = refl

module _ {K X : Type 0} (f : K → List ℕ) where
  -- the row of an entry
  abbrev pub row_of : K × X → List ℕ × X
  row_of e = (f e.0, e.1)

  -- what stands first under the name
  pub look_up-map : (es : List (K × X)) (name : List ℕ) → lookup (λ k. bytes_eq name (f k)) es ≡ look_up (map row_of es) name
  look_up-map [] name = refl
  look_up-map (e ∷ es) name =
      ap (λ b. cond b (Some e.1) (lookup (λ k. bytes_eq name (f k)) es)) (bytes_eq-sym name (f e.0))
      ∙ ap (λ o. cond (bytes_eq (f e.0) name) (Some e.1) o) (look_up-map es name)

  -- a name under which nothing stands is no key
  pub absent-key : (es : List (K × X)) (name : List ℕ) → look_up (map row_of es) name ≡ None → list_any (λ k. bytes_eq name (f k)) (keys_of es) ≡ false
  absent-key [] name h = refl
  absent-key (e ∷ es) name h = by (bytes_eq (f e.0) name) (bytes_eq name (f e.0)) (bytes_eq-sym name (f e.0)) h (absent-key es name)
    where
      by : (b c : Bool) → c ≡ b → cond b (Some e.1) (look_up (map row_of es) name) ≡ None → (look_up (map row_of es) name ≡ None → list_any (λ k. bytes_eq name (f k)) (keys_of es) ≡ false)
          → (c || list_any (λ k. bytes_eq name (f k)) (keys_of es)) ≡ false
      by true c same g more = cc
      by false c same g more = ap (λ d. d || list_any (λ k. bytes_eq name (f k)) (keys_of es)) same ∙ more g

  -- a new row goes last
  pub rows-insert : (eq : K → K → Bool) (es : List (K × X)) (k : K) (x : X) → list_any (eq k) (keys_of es) ≡ false → map row_of (insert_entry eq es k x) ≡ map row_of es ++ (f k, x) ∷ []
  rows-insert eq [] k x h = refl
  rows-insert eq (e ∷ es) k x h = by (eq k e.0) h (rows-insert eq es k x)
    where
      by : (b : Bool) → (b || list_any (eq k) (keys_of es)) ≡ false → (list_any (eq k) (keys_of es) ≡ false → map row_of (insert_entry eq es k x) ≡ map row_of es ++ (f k, x) ∷ [])
          → map row_of (if b then (e.0, x) ∷ es else e ∷ insert_entry eq es k x) ≡ row_of e ∷ (map row_of es ++ (f k, x) ∷ [])
      by true g more = absurd (true≢false g)
      by false g more = ap (λ l. row_of e ∷ l) (more g)
