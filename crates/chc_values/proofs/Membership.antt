-- Membership in a list by recursion, and `Contains`.
use Rattle.std.proofs.Common.{◌≡◌, ◌⊎◌, ℕ, zero, suc, ◌<◌, List, [], ◌∷◌, length, get_or, Contains, inl, inr, arith, refl}
use Rattle.std.specs.List.{AllByRecursion}

module _ {X : Type 0} where
  -- x is one of the list
  abbrev pub In : List X → X → Type 0
  In [] x = ⊥
  In (y ∷ ys) x = (y ≡ x) ⊎ In ys x

  In-at : (xs : List X) (x : X) (k : ℕ) → k < length xs → get_or xs k x ≡ x → In xs x
  In-at [] x k h e = absurd (omega arith)
  In-at (y ∷ ys) x zero h e = inl e
  In-at (y ∷ ys) x (suc k) h e = inr (In-at ys x k (omega arith) e)

  pub In-from_contains : (xs : List X) (x : X) → Contains xs x → In xs x
  In-from_contains xs x c = In-at xs x c.0 c.1 c.2

  pub contains_from_In : (xs : List X) (x : X) → In xs x → Contains xs x
  contains_from_In [] x i = absurd i
  contains_from_In (y ∷ ys) x (inl e) = (0, omega arith, e)
  contains_from_In (y ∷ ys) x (inr i) = let c = contains_from_In ys x i in (suc c.0, omega arith, c.2)

  pub all_at : (P : X → Type 0) (xs : List X) (x : X) → AllByRecursion P xs → In xs x → P x
  all_at P [] x a i = absurd i
  all_at P (y ∷ ys) x a (inl e) = rw (← e) a.0
  all_at P (y ∷ ys) x a (inr i) = all_at P ys x a.1 i

  pub all_from_In : (P : X → Type 0) (xs : List X) → ((x : X) → In xs x → P x) → AllByRecursion P xs
  all_from_In P [] f = tt
  all_from_In P (y ∷ ys) f = (f y (inl refl), all_from_In P ys (λ x i. f x (inr i)))
