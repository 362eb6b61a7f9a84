-- Elements at places: of lists that are mapped, cut, longer at the end or changed at one place.
use Rattle.std.proofs.Common.{◌≡◌, ◌≢◌, ℕ, zero, suc, ◌<◌, ◌≤◌, List, [], ◌∷◌, ◌++◌, ◌⊎◌, inl, inr, length, map, take, set, Option, Some, None, refl, ap, arith}
use Rattle.std.specs.Prelude.{slice_get}
use Rattle.std.proofs.lemmas.Option.{slice_get_within}

none_some : {X : Type 0} (x : X) → None ≡ Some x → ⊥
none_some x e = cc

pub same_element : {X : Type 0} (a b : X) → Some a ≡ Some b → a ≡ b
same_element a b e = cc

-- two elements at one place are the same
pub one_element : {X : Type 0} {o : Option X} (a b : X) → o ≡ Some a → o ≡ Some b → a ≡ b
one_element a b e f = cc

-- an element of a mapped list is that of an element
pub mapped-at : {X Y : Type 0} (f : X → Y) (xs : List X) (k : ℕ) (y : Y) → slice_get (map f xs) k ≡ Some y → (x : X) × (slice_get xs k ≡ Some x) × (f x ≡ y)
mapped-at f [] k y e = absurd (none_some y e)
mapped-at f (x ∷ xs) zero y e = (x, refl, same_element (f x) y e)
mapped-at f (x ∷ xs) (suc k) y e = mapped-at f xs k y e

pub at-map : {X Y : Type 0} (f : X → Y) (xs : List X) (k : ℕ) (x : X) → slice_get xs k ≡ Some x → slice_get (map f xs) k ≡ Some (f x)
at-map f [] k x e = absurd (none_some x e)
at-map f (y ∷ xs) zero x e = ap (λ z. Some (f z)) (same_element y x e)
at-map f (y ∷ xs) (suc k) x e = at-map f xs k x e

-- an element of the first n
pub taken-at : {X : Type 0} (n : ℕ) (xs : List X) (k : ℕ) (x : X) → slice_get (take n xs) k ≡ Some x → (k < n) × (slice_get xs k ≡ Some x)
taken-at zero xs k x e = absurd (none_some x e)
taken-at (suc n) [] k x e = absurd (none_some x e)
taken-at (suc n) (y ∷ xs) zero x e = (omega arith, e)
taken-at (suc n) (y ∷ xs) (suc k) x e = let h = taken-at n xs k x e in let below : suc k < suc n = omega arith in (below, h.1)

-- a place within the list has an element
pub element-at : {X : Type 0} (xs : List X) (k : ℕ) → k < length xs → (x : X) × (slice_get xs k ≡ Some x)
element-at [] k h = absurd (omega arith)
element-at (x ∷ xs) zero h = (x, refl)
element-at (x ∷ xs) (suc k) h = element-at xs k (omega arith)

-- lists of one length have elements at the same places
pub beside-at : {X Y : Type 0} (xs : List X) (ys : List Y) (k : ℕ) (x : X) → length ys ≡ length xs → slice_get xs k ≡ Some x → (y : Y) × (slice_get ys k ≡ Some y)
beside-at xs ys k x long e = let inside : k < length xs = slice_get_within xs k x e in element-at ys k (omega arith)

-- more at the end changes no element
pub at-longer : {X : Type 0} (xs more : List X) (k : ℕ) (x : X) → slice_get xs k ≡ Some x → slice_get (xs ++ more) k ≡ Some x
at-longer [] more k x e = absurd (none_some x e)
at-longer (y ∷ xs) more zero x e = e
at-longer (y ∷ xs) more (suc k) x e = at-longer xs more k x e

pub longer-at : {X : Type 0} (xs more : List X) (k : ℕ) (x : X) → k < length xs → slice_get (xs ++ more) k ≡ Some x → slice_get xs k ≡ Some x
longer-at [] more k x inside e = absurd (omega arith)
longer-at (y ∷ xs) more zero x inside e = e
longer-at (y ∷ xs) more (suc k) x inside e = longer-at xs more k x (omega arith) e

pub take-longer : {X : Type 0} (n : ℕ) (xs more : List X) → n ≤ length xs → take n (xs ++ more) ≡ take n xs
take-longer zero xs more h = refl
take-longer (suc n) [] more h = absurd (omega arith)
take-longer (suc n) (x ∷ xs) more h = ap (λ ys. x ∷ ys) (take-longer n xs more (omega arith))

-- the element that was added at the end
pub at-end : {X : Type 0} (xs : List X) (x : X) → slice_get (xs ++ x ∷ []) (length xs) ≡ Some x
at-end [] x = refl
at-end (y ∷ xs) x = at-end xs x

-- an element at the end or before it
pub end-at : {X : Type 0} (xs : List X) (x : X) (k : ℕ) (y : X) → slice_get (xs ++ x ∷ []) k ≡ Some y → (k < length xs) × (slice_get xs k ≡ Some y) ⊎ (k ≡ length xs) × (x ≡ y)
end-at [] x zero y e = inr (refl, same_element x y e)
end-at [] x (suc k) y e = absurd (none_some y e)
end-at (z ∷ xs) x zero y e = inl (omega arith, e)
end-at (z ∷ xs) x (suc k) y e = elim (end-at xs x k y e) [
  | inl h ↦ let below : suc k < length (z ∷ xs) = omega arith in inl (below, h.1)
  | inr h ↦ inr (ap suc h.0, h.1)
]

-- a changed place, and the others
pub at-changed : {X : Type 0} (xs : List X) (p : ℕ) (x : X) → p < length xs → slice_get (set xs p x) p ≡ Some x
at-changed [] p x h = absurd (omega arith)
at-changed (y ∷ xs) zero x h = refl
at-changed (y ∷ xs) (suc p) x h = at-changed xs p x (omega arith)

pub at-unchanged : {X : Type 0} (xs : List X) (p q : ℕ) (x : X) → q ≢ p → slice_get (set xs p x) q ≡ slice_get xs q
at-unchanged [] p q x ne = refl
at-unchanged (y ∷ xs) zero zero x ne = absurd (ne refl)
at-unchanged (y ∷ xs) zero (suc q) x ne = refl
at-unchanged (y ∷ xs) (suc p) zero x ne = refl
at-unchanged (y ∷ xs) (suc p) (suc q) x ne = at-unchanged xs p q x (λ e. ne (ap suc e))
