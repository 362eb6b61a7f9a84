-- What a world says of division by zero: at most one number, and always one.
use Rattle.std.proofs.Common.{◌≡◌, ◌⊎◌, ℤ, pos, List, [], ◌∷◌, All, Contains, inl, inr, refl, sym, ap, ◌∙◌, subst}
use Rattle.std.proofs.Math.IntN.{ℤ_discrete}
use Rattle.std.proofs.lemmas.List.Elements.{recursion_from_All}
use Rattle.chc_values.specs.declared.world.WorldEntry.{WorldEntry}
use Rattle.chc_values.specs.declared.world.WorldEntry.TheVariants as entry
use Rattle.chc_values.specs.Worlds.{DividesByZero, LeavesByZero, SameKey, KeysOnce}
use Rattle.chc_values.proofs.Membership.{In, In-from_contains, contains_from_In, all_at}

-- a line with the key of another line of the table
not_again : (w : List WorldEntry) (e other : WorldEntry) → All (λ x. SameKey e x → ⊥) w → In w other → SameKey e other → ⊥
not_again w e other a m k = all_at (λ x. SameKey e x → ⊥) w other (recursion_from_All (λ x. SameKey e x → ⊥) w a) m k

-- lines with one key have one result, where no key stands twice
module _ (K R : Type 0) (line : K → R → WorldEntry) (keyed : (m : K) (x y : R) → SameKey (line m x) (line m y)) (result : (m : K) (x y : R) → line m x ≡ line m y → x ≡ y) where
  pub one_line : (w : List WorldEntry) (m : K) (x y : R) → KeysOnce w → In w (line m x) → In w (line m y) → x ≡ y
  one_line [] m x y k i j = absurd i
  one_line (e ∷ w) m x y k (inl p) (inl q) = result m x y (sym p ∙ q)
  one_line (e ∷ w) m x y k (inl p) (inr j) = absurd (not_again w e (line m y) k.0 j (subst (λ z. SameKey z (line m y)) (sym p) (keyed m x y)))
  one_line (e ∷ w) m x y k (inr i) (inl q) = absurd (not_again w e (line m x) k.0 i (subst (λ z. SameKey z (line m x)) (sym q) (keyed m y x)))
  one_line (e ∷ w) m x y k (inr i) (inr j) = one_line w m x y k.1 i j

-- a number that a line says, or 0 where none does
module _ (line : ℤ → ℤ → WorldEntry) (keyed : (m x y : ℤ) → SameKey (line m x) (line m y)) (result : (m x y : ℤ) → line m x ≡ line m y → x ≡ y) where
  abbrev Reads : List WorldEntry → ℤ → ℤ → Type 0
  Reads w m r = Contains w (line m r) ⊎ (((x : ℤ) → Contains w (line m x) → ⊥) × (r ≡ pos 0))

  one_read : (w : List WorldEntry) (m x y : ℤ) → KeysOnce w → Reads w m x → Reads w m y → x ≡ y
  one_read w m x y k (inl p) (inl q) = one_line ℤ ℤ line keyed result w m x y k (In-from_contains w (line m x) p) (In-from_contains w (line m y) q)
  one_read w m x y k (inl p) (inr q) = absurd (q.0 x p)
  one_read w m x y k (inr p) (inl q) = absurd (p.0 y q)
  one_read w m x y k (inr p) (inr q) = p.1 ∙ sym q.1

  -- a table has a line with the key, or none
  abbrev Searched : List WorldEntry → ℤ → Type 0
  Searched w m = ((x : ℤ) × In w (line m x)) ⊎ ((x : ℤ) → In w (line m x) → ⊥)

  read_from : (w : List WorldEntry) (m : ℤ) → Searched w m → (r : ℤ) × Reads w m r
  read_from w m (inl s) = (s.0, inl (contains_from_In w (line m s.0) s.1))
  read_from w m (inr n) = (pos 0, inr ((λ x c. n x (In-from_contains w (line m x) c)), refl))

  module _ (is_line : (e : WorldEntry) (m : ℤ) → ((x : ℤ) × (e ≡ line m x)) ⊎ ((x : ℤ) → e ≡ line m x → ⊥)) where
    search_line : (w : List WorldEntry) (m : ℤ) → Searched w m
    search_line [] m = inr (λ x i. i)
    search_line (e ∷ w) m = at (is_line e m) (search_line w m)
      where
        at : ((x : ℤ) × (e ≡ line m x)) ⊎ ((x : ℤ) → e ≡ line m x → ⊥) → Searched w m → Searched (e ∷ w) m
        at (inl h) s = inl (h.0, inl h.1)
        at (inr n) (inl s) = inl (s.0, inr s.1)
        at (inr n) (inr f) = inr (λ x. elim [ inl p ↦ n x p | inr i ↦ f x i ])

    some_read : (w : List WorldEntry) (m : ℤ) → (r : ℤ) × Reads w m r
    some_read w m = read_from w m (search_line w m)

Div0-result : (m x y : ℤ) → entry.Div0 m x ≡ entry.Div0 m y → x ≡ y
Div0-result m x y e = cc

Mod0-result : (m x y : ℤ) → entry.Mod0 m x ≡ entry.Mod0 m y → x ≡ y
Mod0-result m x y e = cc

is_Div0 : (e : WorldEntry) (m : ℤ) → ((x : ℤ) × (e ≡ entry.Div0 m x)) ⊎ ((x : ℤ) → e ≡ entry.Div0 m x → ⊥)
is_Div0 (entry.Sel d c i v r) m = inr (λ x e. cc)
is_Div0 (entry.Div0 n r) m = elim (ℤ_discrete n m) [ yes p ↦ inl (r, ap (λ k. entry.Div0 k r) p) | no q ↦ inr (λ x e. q cc) ]
is_Div0 (entry.Mod0 n r) m = inr (λ x e. cc)

is_Mod0 : (e : WorldEntry) (m : ℤ) → ((x : ℤ) × (e ≡ entry.Mod0 m x)) ⊎ ((x : ℤ) → e ≡ entry.Mod0 m x → ⊥)
is_Mod0 (entry.Sel d c i v r) m = inr (λ x e. cc)
is_Mod0 (entry.Div0 n r) m = inr (λ x e. cc)
is_Mod0 (entry.Mod0 n r) m = elim (ℤ_discrete n m) [ yes p ↦ inl (r, ap (λ k. entry.Mod0 k r) p) | no q ↦ inr (λ x e. q cc) ]

pub one_quotient_by_zero : (w : List WorldEntry) (m x y : ℤ) → KeysOnce w → DividesByZero w m x → DividesByZero w m y → x ≡ y
one_quotient_by_zero w m x y k p q = one_read entry.Div0 (λ m x y. (y, refl)) Div0-result w m x y k p q

pub some_quotient_by_zero : (w : List WorldEntry) (m : ℤ) → (r : ℤ) × DividesByZero w m r
some_quotient_by_zero w m = some_read entry.Div0 (λ m x y. (y, refl)) Div0-result is_Div0 w m

pub one_rest_by_zero : (w : List WorldEntry) (m x y : ℤ) → KeysOnce w → LeavesByZero w m x → LeavesByZero w m y → x ≡ y
one_rest_by_zero w m x y k p q = one_read entry.Mod0 (λ m x y. (y, refl)) Mod0-result w m x y k p q

pub some_rest_by_zero : (w : List WorldEntry) (m : ℤ) → (r : ℤ) × LeavesByZero w m r
some_rest_by_zero w m = some_read entry.Mod0 (λ m x y. (y, refl)) Mod0-result is_Mod0 w m
