-- Exceptions of an array value: what stands at an index, what a store makes, and that canonical exceptions are
-- known by what stands at each index.
use Rattle.std.proofs.Common.{◌≡◌, ◌≢◌, ℤ, ◌<ℤ◌, ◌≤ℤ◌, List, [], ◌∷◌, map, inl, inr, arith, refl, sym, ap, ◌∙◌, subst}
use Rattle.std.specs.List.{AllByRecursion}
use Rattle.std.proofs.Math.IntN.{ℤ_discrete}
use Rattle.std.proofs.lemmas.Int.{ints, by_lt_z}
use Rattle.std.proofs.lemmas.List.Elements.{recursion_from_All, All-from_recursion}
use Rattle.chc_values.specs.declared.value.Value.{Value}
use Rattle.chc_values.specs.Values.{IsAscending, IsCanonical}
use Rattle.chc_values.proofs.Membership.{In}

abbrev pub Exceptions : Type 0
Exceptions = List (ℤ × Value)

abbrev pub indices : Exceptions → List ℤ
indices es = map (λ (e : ℤ × Value). e.0) es

-- the first where the fact holds, otherwise the second
abbrev pub pick : {A X : Type 0} → Dec A → X → X → X
pick (yes a) x y = x
pick (no n) x y = y

pub pick-yes : {A X : Type 0} (d : Dec A) (x y : X) → A → pick d x y ≡ x
pick-yes (yes a) x y h = refl
pick-yes (no n) x y h = absurd (n h)

pub pick-no : {A X : Type 0} (d : Dec A) (x y : X) → (A → ⊥) → pick d x y ≡ y
pick-no (yes a) x y h = absurd (h a)
pick-no (no n) x y h = refl

-- what stands at an index
abbrev pub value_at : Value → Exceptions → ℤ → Value
value_at default [] i = default
value_at default (e ∷ es) i = pick (ℤ_discrete e.0 i) e.1 (value_at default es i)

-- each of the indices is above i
abbrev pub AreAbove : ℤ → Exceptions → Type 0
AreAbove i es = AllByRecursion (λ j. i <ℤ j) (indices es)

-- the indices ascend
abbrev pub Ascends : Exceptions → Type 0
Ascends [] = Unit {0}
Ascends (e ∷ es) = AreAbove e.0 es × Ascends es

-- none of the values is the default
abbrev pub NoDefaults : Value → Exceptions → Type 0
NoDefaults default es = AllByRecursion (λ (e : ℤ × Value). e.1 ≢ default) es

pub Ascends-from : (es : Exceptions) → IsAscending (indices es) → Ascends es
Ascends-from [] h = tt
Ascends-from (e ∷ es) h = (recursion_from_All (λ j. e.0 <ℤ j) (indices es) h.0, Ascends-from es h.1)

pub IsAscending-from : (es : Exceptions) → Ascends es → IsAscending (indices es)
IsAscending-from [] h = tt
IsAscending-from (e ∷ es) h = (All-from_recursion (λ j. e.0 <ℤ j) (indices es) h.0, IsAscending-from es h.1)

pub record Canonical (default : Value) (es : Exceptions) : Type 0 where
  pub ascends : Ascends es
  pub no_defaults : NoDefaults default es

pub Canonical-from : (default : Value) (es : Exceptions) → IsCanonical default es → Canonical default es
Canonical-from default es h = record { ascends = Ascends-from es h.0; no_defaults = recursion_from_All (λ (e : ℤ × Value). e.1 ≢ default) es h.1 }

pub IsCanonical-from : (default : Value) (es : Exceptions) → Canonical default es → IsCanonical default es
IsCanonical-from default es h = (IsAscending-from es h.ascends, All-from_recursion (λ (e : ℤ × Value). e.1 ≢ default) es h.no_defaults)

pub below_all : (i j : ℤ) (es : Exceptions) → i <ℤ j → AreAbove j es → AreAbove i es
below_all i j [] h a = tt
below_all i j (e ∷ es) h a = (below i j e.0 h a.0, below_all i j es h a.1)
  where
    below : (i j k : ℤ) → i <ℤ j → j <ℤ k → i <ℤ k
    below i j k h g = omega (arith, ints)

pub not_below_itself : (i j : ℤ) → i <ℤ j → i ≡ j → ⊥
not_below_itself i j h e = omega (arith, ints)

-- what stands at none of the indices is the default
pub value_at-below : (default : Value) (i : ℤ) (es : Exceptions) → AreAbove i es → value_at default es i ≡ default
value_at-below default i [] a = refl
value_at-below default i (e ∷ es) a = pick-no (ℤ_discrete e.0 i) e.1 (value_at default es i) (λ p. not_below_itself i e.0 a.0 (sym p)) ∙ value_at-below default i es a.1

pub value_at-absent : (default : Value) (es : Exceptions) (i : ℤ) → ((u : Value) → In es (i, u) → ⊥) → value_at default es i ≡ default
value_at-absent default [] i h = refl
value_at-absent default (e ∷ es) i h =
    pick-no (ℤ_discrete e.0 i) e.1 (value_at default es i) (λ p. h e.1 (inl (λ j. (p j, e.1)))) ∙ value_at-absent default es i (λ u m. h u (inr m))

-- an exception stands at its index
pub In-above : (i : ℤ) (es : Exceptions) (e : ℤ × Value) → AreAbove i es → In es e → i <ℤ e.0
In-above i [] e a m = absurd m
In-above i (x ∷ es) e a (inl p) = subst (λ (y : ℤ × Value). i <ℤ y.0) p a.0
In-above i (x ∷ es) e a (inr m) = In-above i es e a.1 m

pub value_at-In : (default : Value) (es : Exceptions) (e : ℤ × Value) → Ascends es → In es e → value_at default es e.0 ≡ e.1
value_at-In default [] e a m = absurd m
value_at-In default (x ∷ es) e a (inl p) = pick-yes (ℤ_discrete x.0 e.0) x.1 (value_at default es e.0) (ap (λ (y : ℤ × Value). y.0) p) ∙ ap (λ (y : ℤ × Value). y.1) p
value_at-In default (x ∷ es) e a (inr m) =
    pick-no (ℤ_discrete x.0 e.0) x.1 (value_at default es e.0) (λ p. not_below_itself x.0 e.0 (In-above x.0 es e a.0 m) p) ∙ value_at-In default es e a.1 m

-- an index is among the exceptions, or at none of them
pub data Found (es : Exceptions) (i : ℤ) : Type 0 where
  found : (u : Value) → In es (i, u) → Found es i
  absent : ((u : Value) → In es (i, u) → ⊥) → Found es i

found_at : (x : ℤ × Value) (es : Exceptions) (i : ℤ) → Dec (x.0 ≡ i) → Found es i → Found (x ∷ es) i
found_at x es i (yes p) f = found x.1 (inl (λ j. (p j, x.1)))
found_at x es i (no n) (found u m) = found u (inr m)
found_at x es i (no n) (absent h) = absent (λ u. elim [ inl p ↦ n (ap (λ (y : ℤ × Value). y.0) p) | inr m ↦ h u m ])

pub search_index : (es : Exceptions) (i : ℤ) → Found es i
search_index [] i = absent (λ u m. m)
search_index (x ∷ es) i = found_at x es i (ℤ_discrete x.0 i) (search_index es i)

-- how two indices stand to one another
pub data Order (i j : ℤ) : Type 0 where
  less : i <ℤ j → Order i j
  same : i ≡ j → Order i j
  more : j <ℤ i → Order i j

pub ordered : (i j : ℤ) → Order i j
ordered i j = by_lt_z i j (λ h. less h) (λ h. by_lt_z j i (λ g. more g) (λ g. same (equal h g)))
  where
    equal : j ≤ℤ i → i ≤ℤ j → i ≡ j
    equal h g = omega (arith, ints)

-- canonical exceptions that have the same at every index are the same
abbrev pub Agree : Value → Exceptions → Exceptions → Type 0
Agree default xs ys = (i : ℤ) → value_at default xs i ≡ value_at default ys i

pub here : (default : Value) (x : ℤ × Value) (xs : Exceptions) → value_at default (x ∷ xs) x.0 ≡ x.1
here default x xs = pick-yes (ℤ_discrete x.0 x.0) x.1 (value_at default xs x.0) refl

pub elsewhere : (default : Value) (x : ℤ × Value) (xs : Exceptions) (i : ℤ) → (x.0 ≡ i → ⊥) → value_at default (x ∷ xs) i ≡ value_at default xs i
elsewhere default x xs i n = pick-no (ℤ_discrete x.0 i) x.1 (value_at default xs i) n

tails_agree : (default : Value) (x y : ℤ × Value) (xs ys : Exceptions) → x.0 ≡ y.0 → AreAbove x.0 xs → AreAbove y.0 ys
    → Agree default (x ∷ xs) (y ∷ ys) → Agree default xs ys
tails_agree default x y xs ys e a b g i = at (ℤ_discrete x.0 i)
  where
    at : Dec (x.0 ≡ i) → value_at default xs i ≡ value_at default ys i
    at (yes p) = subst (λ j. value_at default xs j ≡ default) p (value_at-below default x.0 xs a)
        ∙ sym (subst (λ j. value_at default ys j ≡ default) (sym e ∙ p) (value_at-below default y.0 ys b))
    at (no n) = sym (elsewhere default x xs i n) ∙ g i ∙ elsewhere default y ys i (λ p. n (e ∙ p))

-- an index below all of the other's is no exception
not_alone : (default : Value) (x : ℤ × Value) (xs ys : Exceptions) → x.1 ≢ default → AreAbove x.0 ys → value_at default (x ∷ xs) x.0 ≡ value_at default ys x.0 → ⊥
not_alone default x xs ys n a e = n (sym (here default x xs) ∙ e ∙ value_at-below default x.0 ys a)

pub same_exceptions : (default : Value) (xs ys : Exceptions) → Ascends xs → Ascends ys → NoDefaults default xs → NoDefaults default ys → Agree default xs ys → xs ≡ ys
same_exceptions default [] [] a b n m g = refl
same_exceptions default [] (y ∷ ys) a b n m g = absurd (not_alone default y ys [] m.0 tt (sym (g y.0)))
same_exceptions default (x ∷ xs) [] a b n m g = absurd (not_alone default x xs [] n.0 tt (g x.0))
same_exceptions default (x ∷ xs) (y ∷ ys) a b n m g = by_order (ordered x.0 y.0)
    (λ e. same_exceptions default xs ys a.1 b.1 n.1 m.1 (tails_agree default x y xs ys e a.0 b.0 g))
  where
    by_order : Order x.0 y.0 → (x.0 ≡ y.0 → xs ≡ ys) → (x ∷ xs) ≡ (y ∷ ys)
    by_order (less h) f = absurd (not_alone default x xs (y ∷ ys) n.0 (h, below_all x.0 y.0 ys h b.0) (g x.0))
    by_order (more h) f = absurd (not_alone default y ys (x ∷ xs) m.0 (h, below_all y.0 x.0 xs h a.0) (sym (g y.0)))
    by_order (same e) f =
        let v : x.1 ≡ y.1 = sym (here default x xs) ∙ g x.0 ∙ subst (λ j. value_at default (y ∷ ys) j ≡ y.1) (sym e) (here default y ys) in
        λ i. (e i, v i) ∷ f e i
