-- Rows of a map, seen by the bytes of their keys.
use Rattle.std.proofs.Common.{◌≡◌, ℕ, Bool, true, false, ◌||◌, cond, List, [], ◌∷◌, ◌++◌, map, Some, refl, ap, ap₂, sym, ◌∙◌, true≢false}
use Rattle.std.specs.Prelude.{if◌then◌else◌}
use Rattle.std.specs.List.{list_any, AllZip}
use Rattle.std.specs.Str.{bytes_eq}
use Rattle.std.specs.Map.{keys_of, lookup}
use Rattle.std.proofs.lemmas.Slice.Eq.{bytes_eq-Decides}
use Rattle.indexmap.specs.IndexMap.{insert_entry}
use Rattle.chc_sorts.specs.Names.{look_up}

-- bytes compare the same in either order
pub bytes_eq-sym : (xs ys : List ℕ) → bytes_eq xs ys ≡ bytes_eq ys xs
bytes_eq-sym xs ys = by (bytes_eq xs ys) (bytes_eq ys xs) refl refl
  where
    by : (b d : Bool) → bytes_eq xs ys ≡ b → bytes_eq ys xs ≡ d → b ≡ d
    by true true p q = refl
    by true false p q = sym ((bytes_eq-Decides ys xs).1 (sym ((bytes_eq-Decides xs ys).0 p))) ∙ q
    by false true p q = sym p ∙ (bytes_eq-Decides xs ys).1 (sym ((bytes_eq-Decides ys xs).0 q))
    by false false p q = refl

module _ {K X : Type 0} (f : K → List ℕ) where
  -- the row of an entry
  abbrev pub row_of : K × X → List ℕ × X
  row_of e = (f e.0, e.1)

  -- what stands first under the name
  pub look_up-map : (es : List (K × X)) (name : List ℕ) → lookup (λ k. bytes_eq name (f k)) es ≡ look_up (map row_of es) name
  look_up-map [] name = refl
  look_up-map (e ∷ es) name =
      ap (λ b. cond b (Some e.1) (lookup (λ k. bytes_eq name (f k)) es)) (bytes_eq-sym name (f e.0))
      ∙ ap (λ o. cond (bytes_eq (f e.0) name) (Some e.1) o) (look_up-map es name)

  -- the names of the rows
  pub names-map : (es : List (K × X)) → map f (keys_of es) ≡ map (λ (r : List ℕ × X). r.0) (map row_of es)
  names-map [] = refl
  names-map (e ∷ es) = ap (λ l. f e.0 ∷ l) (names-map es)

  -- a new row goes last
  pub rows-insert : (eq : K → K → Bool) (es : List (K × X)) (k : K) (x : X) → list_any (eq k) (keys_of es) ≡ false → map row_of (insert_entry eq es k x) ≡ map row_of es ++ (f k, x) ∷ []
  rows-insert eq [] k x h = refl
  rows-insert eq (e ∷ es) k x h = by (eq k e.0) h (rows-insert eq es k x)
    where
      by : (b : Bool) → (b || list_any (eq k) (keys_of es)) ≡ false → (list_any (eq k) (keys_of es) ≡ false → map row_of (insert_entry eq es k x) ≡ map row_of es ++ (f k, x) ∷ [])
          → map row_of (if b then (e.0, x) ∷ es else e ∷ insert_entry eq es k x) ≡ row_of e ∷ (map row_of es ++ (f k, x) ∷ [])
      by true g more = absurd (true≢false g)
      by false g more = ap (λ l. row_of e ∷ l) (more g)

module _ {K : Type 0} (f : K → List ℕ) (C : K → K → Type 0) (same : (k l : K) → C k l → f l ≡ f k) where
  -- clones of keys have their bytes
  pub names-cloned : (ks ls : List K) → AllZip C ks ls → map f ls ≡ map f ks
  names-cloned [] [] h = refl
  names-cloned [] (l ∷ ls) h = absurd h
  names-cloned (k ∷ ks) [] h = absurd h
  names-cloned (k ∷ ks) (l ∷ ls) h = ap₂ ◌∷◌ (same k l h.0) (names-cloned ks ls h.1)

  module _ {X : Type 0} (D : X → X → Type 0) (equal : (x y : X) → D x y → y ≡ x) where
    -- clones of entries have their rows
    pub rows-cloned : (es fs : List (K × X)) → AllZip (λ p q. C p.0 q.0 × D p.1 q.1) es fs → map (row_of f) fs ≡ map (row_of f) es
    rows-cloned [] [] h = refl
    rows-cloned [] (e ∷ fs) h = absurd h
    rows-cloned (e ∷ es) [] h = absurd h
    rows-cloned (e ∷ es) (d ∷ fs) h = ap₂ (λ (r : List ℕ × X) l. r ∷ l) (ap₂ (λ (n : List ℕ) (x : X). (n, x)) (same e.0 d.0 h.0.0) (equal e.1 d.1 h.0.1)) (rows-cloned es fs h.1)
