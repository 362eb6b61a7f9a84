-- `HasAt` and `Stores`: at most one value, and always one, where the exceptions stand canonically.
use Rattle.std.proofs.Common.{◌≡◌, ℤ, inl, inr, sym, ap, ◌∙◌, subst}
use Rattle.std.proofs.Math.IntN.{ℤ_discrete}
use Rattle.std.specs.List.{AllByRecursion}
use Rattle.chc_sorts.specs.declared.sort.Sort.{Sort}
use Rattle.chc_sorts.specs.declared.sort.Sort.TheVariants as sort
use Rattle.chc_sorts.specs.Signature.{Signature}
use Rattle.chc_values.specs.declared.value.Value.{Value}
use Rattle.chc_values.specs.Values.{IsOf}
use Rattle.chc_values.proofs.Membership.{In, In-from_contains, contains_from_In, all_at, all_from_In}
use Rattle.chc_values.proofs.ValueSorts.{array_value, held_by_array, array_of}
use Rattle.chc_values.proofs.Exceptions.{Ascends-from, Exceptions, value_at, value_at-In, value_at-absent, Found, found, absent, search_index, Ascends, Canonical, Canonical-from, IsCanonical-from, same_exceptions}
use Rattle.chc_values.proofs.Storing.{Stored, stored}
use Rattle.chc_values.specs.Arrays.{HasAt, Stores, IsArray, Selects, Updates, IsElement, KeepsSort}

-- what an array has at an index is what stands there
pub HasAt-is : (default : Value) (es : Exceptions) (i : ℤ) (v : Value) → Ascends es → HasAt default es i v → v ≡ value_at default es i
HasAt-is default es i v a (inl c) = sym (value_at-In default es (i, v) a (In-from_contains es (i, v) c))
HasAt-is default es i v a (inr n) = n.1 ∙ sym (value_at-absent default es i (λ u m. n.0 u (contains_from_In es (i, u) m)))

pub HasAt-found : (default : Value) (es : Exceptions) (i : ℤ) → Ascends es → HasAt default es i (value_at default es i)
HasAt-found default es i a = at (search_index es i)
  where
    at : Found es i → HasAt default es i (value_at default es i)
    at (found u m) = inl (contains_from_In es (i, value_at default es i) (subst (λ v. In es (i, v)) (sym (value_at-In default es (i, u) a m)) m))
    at (absent n) = inr ((λ u c. n u (In-from_contains es (i, u) c)), value_at-absent default es i n)

pub one_at : (default : Value) (es : Exceptions) (i : ℤ) (u v : Value) → Ascends es → HasAt default es i u → HasAt default es i v → u ≡ v
one_at default es i u v a h k = HasAt-is default es i u a h ∙ sym (HasAt-is default es i v a k)

-- what stands at an index is the default or an exception's value
pub value_at-all : (P : Value → Type 0) (default : Value) (es : Exceptions) (i : ℤ) → Ascends es → P default → AllByRecursion (λ (e : ℤ × Value). P e.1) es → P (value_at default es i)
value_at-all P default es i a d h = at (search_index es i)
  where
    at : Found es i → P (value_at default es i)
    at (found u m) = subst P (sym (value_at-In default es (i, u) a m)) (all_at (λ (e : ℤ × Value). P e.1) es (i, u) h m)
    at (absent n) = subst P (sym (value_at-absent default es i n)) d

-- the exceptions after a store stand as they should
Stored-from : (default : Value) (old : Exceptions) (i : ℤ) (v : Value) (new : Exceptions) → Ascends old → Stores default old i v new → Stored default old i v new
Stored-from default old i v new a s =
    let c = Canonical-from default new s.0 in
    record {
      canonical = c;
      at_index = sym (HasAt-is default new i v c.ascends s.1);
      at_others = λ j n. sym (HasAt-is default new j (value_at default old j) c.ascends (s.2 j (value_at default old j) (λ e. n (sym e)) (HasAt-found default old j a)));
    }

pub one_store : (default : Value) (old : Exceptions) (i : ℤ) (v : Value) (new other : Exceptions) → Ascends old → Stores default old i v new → Stores default old i v other → new ≡ other
one_store default old i v new other a s t =
    let p = Stored-from default old i v new a s in let q = Stored-from default old i v other a t in
    same_exceptions default new other p.canonical.ascends q.canonical.ascends p.canonical.no_defaults q.canonical.no_defaults (λ j. at p q j (ℤ_discrete i j))
  where
    at : Stored default old i v new → Stored default old i v other → (j : ℤ) → Dec (i ≡ j) → value_at default new j ≡ value_at default other j
    at p q j (yes e) = subst (λ k. value_at default new k ≡ value_at default other k) e (p.at_index ∙ sym q.at_index)
    at p q j (no n) = p.at_others j n ∙ sym (q.at_others j n)

-- the store of exceptions that stand so
pub Stores-from : (default : Value) (old : Exceptions) (i : ℤ) (v : Value) (new : Exceptions) → Ascends old → Stored default old i v new → Stores default old i v new
Stores-from default old i v new a t = (
  IsCanonical-from default new t.canonical,
  subst (HasAt default new i) t.at_index (HasAt-found default new i t.canonical.ascends),
  λ j u n h. subst (HasAt default new j) (t.at_others j (λ e. n (sym e)) ∙ sym (HasAt-is default old j u a h)) (HasAt-found default new j t.canonical.ascends),
)

pub some_store : (default : Value) (old : Exceptions) (i : ℤ) (v : Value) → Canonical default old → (new : Exceptions) × Stores default old i v new
some_store default old i v c = let s = stored default old i v c in (s.0, Stores-from default old i v s.0 c.ascends s.1)

-- all that stands in the array after a store has what all before it had, and the new value
pub stored_all : (P : Value → Type 0) (default : Value) (old : Exceptions) (i : ℤ) (v : Value) (new : Exceptions) → Ascends old → Stores default old i v new
    → P default → AllByRecursion (λ (e : ℤ × Value). P e.1) old → P v → AllByRecursion (λ (e : ℤ × Value). P e.1) new
stored_all P default old i v new a s d h p = all_from_In (λ (e : ℤ × Value). P e.1) new (λ e m. at (Stored-from default old i v new a s) e m (ℤ_discrete i e.0))
  where
    at : Stored default old i v new → (e : ℤ × Value) → In new e → Dec (i ≡ e.0) → P e.1
    at t e m (yes q) = subst P (sym t.at_index ∙ ap (value_at default new) q ∙ value_at-In default new e t.canonical.ascends m) p
    at t e m (no n) = subst P (sym (t.at_others e.0 n) ∙ value_at-In default new e t.canonical.ascends m) (value_at-all P default old e.0 a d h)

-- an element of an array is of the elements' sort
pub selected_of_sort : (a : Value) (i : ℤ) (v : Value) → Selects a i v → IsElement a v
selected_of_sort a i v s sig element h =
    let holds = held_by_array sig s.0 s.1 element (subst (λ x. IsOf sig x (sort.Array element)) s.2 h) in
    let ascends = Ascends-from s.1 holds.canonical.0 in
    subst (λ x. IsOf sig x element) (sym (HasAt-is s.0 s.1 i v ascends s.3)) (value_at-all (λ x. IsOf sig x element) s.0 s.1 i ascends holds.default_of holds.each_of)

-- an array after a store is of the sort that it had
pub updated_of_sort : (a : Value) (i : ℤ) (v b : Value) → Updates a i v b → KeepsSort a v b
updated_of_sort a i v b u sig element h k =
    let holds = held_by_array sig u.0 u.1 element (subst (λ x. IsOf sig x (sort.Array element)) u.3 h) in
    let each = stored_all (λ x. IsOf sig x element) u.0 u.1 i v u.2 (Ascends-from u.1 holds.canonical.0) u.5 holds.default_of holds.each_of k in
    subst (λ x. IsOf sig x (sort.Array element)) (sym u.4) (array_of sig u.0 u.2 element (record { default_of = holds.default_of; each_of = each; canonical = u.5.0 }))

-- a value of an array sort is an array
pub IsArray-from : (sig : Signature) (a : Value) (element : Sort) → IsOf sig a (sort.Array element) → IsArray a
IsArray-from sig a element h =
    let t = array_value sig element a h in
    (t.0, t.1, t.2, (held_by_array sig t.0 t.1 element (subst (λ x. IsOf sig x (sort.Array element)) t.2 h)).canonical)
