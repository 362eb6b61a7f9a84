-- Tests of values against sorts, by the value's variant.
use Rattle.std.proofs.Common.{◌≡◌, ◌↔◌, ℕ, zero, suc, ℤ, ◌+◌, ◌-◌, ◌<◌, ◌<ℤ◌, Bool, false, IsTrue, List, [], ◌∷◌, length, get_or, refl, sym, ap, ◌∙◌, subst, arith}
use Rattle.std.specs.List.{AllByRecursion}
use Rattle.std.proofs.lemmas.Bool.{false≢true}
use Rattle.std.proofs.lemmas.List.Elements.{pair_read}
use Rattle.chc_sorts.specs.declared.sort.Sort.{Sort}
use Rattle.chc_sorts.specs.declared.sort.Sort.TheVariants as sort
use Rattle.chc_sorts.specs.Signature.{Signature}
use Rattle.chc_values.specs.declared.value.Value.{Value}
use Rattle.chc_values.specs.declared.value.Value.TheVariants as value
use Rattle.chc_values.specs.Values.{HasFields, IsCanonical, IsOf, AreOf}
use Rattle.chc_values.specs.Arrays.{IsOrdered}
use Rattle.chc_values.proofs.ValueSorts.{IsOf-Bool, IsOf-Int, IsOf-Data, IsOf-Array, HoldsOf, held_by_array, array_of}
use Rattle.chc_values.proofs.Exceptions.{Exceptions, Ascends, Ascends-from, IsAscending-from, below_all}
use Rattle.chc_values.proofs.Datatypes.{one_fields}

-- a test that fails where the fact doesn't hold
pub refuted : {P : Type 0} → (P → ⊥) → IsTrue false ↔ P
refuted n = (λ e. absurd (false≢true e), λ p. absurd (n p))

module _ (sig : Signature) (v : Value) (s : Sort) where
  pub bool_test : (r b : Bool) → v ≡ value.Bool b → (IsTrue r ↔ (s ≡ sort.Bool)) → IsTrue r ↔ IsOf sig v s
  bool_test r b e h = subst (λ (T : Type 0). IsTrue r ↔ T) (sym (ap (λ u. IsOf sig u s) e ∙ IsOf-Bool sig b s)) h

  pub int_test : (r : Bool) (n : ℤ) → v ≡ value.Int n → (IsTrue r ↔ (s ≡ sort.Int)) → IsTrue r ↔ IsOf sig v s
  int_test r n e h = subst (λ (T : Type 0). IsTrue r ↔ T) (sym (ap (λ u. IsOf sig u s) e ∙ IsOf-Int sig n s)) h

  module _ (d c : ℕ) (vs : List Value) (is : v ≡ value.Data d c vs) where
    abbrev Made : Type 0
    Made = (ss : List Sort) × (s ≡ sort.Data d) × HasFields sig d c ss × AreOf sig vs ss

    made_is : IsOf sig v s ≡ Made
    made_is = ap (λ u. IsOf sig u s) is ∙ IsOf-Data sig d c vs s

    pub data_test : (r : Bool) → s ≡ sort.Data d → (IsTrue r ↔ ((ss : List Sort) × HasFields sig d c ss × AreOf sig vs ss)) → IsTrue r ↔ IsOf sig v s
    data_test r e h = subst (λ (T : Type 0). IsTrue r ↔ T) (sym made_is) (λ t. let k = h.0 t in (k.0, e, k.1, k.2), λ k. h.1 (k.0, k.2, k.3))

    pub other_data : (r : Bool) → r ≡ false → (IsTrue r ↔ (s ≡ sort.Data d)) → IsTrue r ↔ IsOf sig v s
    other_data r e h = subst (λ (T : Type 0). IsTrue r ↔ T) (sym made_is) (λ t. absurd (false≢true (sym e ∙ t)), λ (k : Made). h.1 k.1)

  module _ (default : Value) (es : Exceptions) (is : v ≡ value.Array default es) where
    abbrev Stored : Type 0
    Stored = (element : Sort) × (s ≡ sort.Array element) × IsOf sig default element × AllByRecursion (λ (e : ℤ × Value). IsOf sig e.1 element) es × IsCanonical default es

    pub no_array : ((element : Sort) → s ≡ sort.Array element → ⊥) → IsTrue false ↔ IsOf sig v s
    no_array n = subst (λ (T : Type 0). IsTrue false ↔ T) (sym (ap (λ u. IsOf sig u s) is ∙ IsOf-Array sig default es s)) (refuted (λ (k : Stored). n k.0 k.1))

    pub array_test : (element : Sort) (r : Bool) → s ≡ sort.Array element → (IsTrue r ↔ HoldsOf sig default es element) → IsTrue r ↔ IsOf sig v s
    array_test element r e h = (
      λ t. subst (λ u. IsOf sig u s) (sym is) (subst (IsOf sig (value.Array default es)) (sym e) (array_of sig default es element (h.0 t))),
      λ k. h.1 (held_by_array sig default es element (subst (IsOf sig (value.Array default es)) e (subst (λ u. IsOf sig u s) is k))),
    )

-- the fields of the constructor found are the only ones
pub fields_test : (sig : Signature) (d c : ℕ) (vs : List Value) (ss : List Sort) (r : Bool) → HasFields sig d c ss → (IsTrue r ↔ AreOf sig vs ss)
    → IsTrue r ↔ ((ts : List Sort) × HasFields sig d c ts × AreOf sig vs ts)
fields_test sig d c vs ss r f h = (λ t. (ss, f, h.0 t), λ k. h.1 (subst (AreOf sig vs) (one_fields sig d c k.0 ss k.1 f) k.2))

-- as many values as sorts
pub AreOf-length : (sig : Signature) (vs : List Value) (ss : List Sort) → AreOf sig vs ss → length vs ≡ length ss
AreOf-length sig [] [] h = refl
AreOf-length sig [] (s ∷ ss) h = absurd h
AreOf-length sig (v ∷ vs) [] h = absurd h
AreOf-length sig (v ∷ vs) (s ∷ ss) h = let k = AreOf-length sig vs ss h.1 in omega arith

-- each index is below the next
abbrev Steps : Exceptions → ℕ → Type 0
Steps es n = (k : ℕ) (d : ℤ × Value) → k + 1 < n → (get_or es k d).0 <ℤ (get_or es (k + 1) d).0

ascends_by_steps : (es : Exceptions) → ((k : ℕ) (d : ℤ × Value) → suc k < length es → (get_or es k d).0 <ℤ (get_or es (suc k) d).0) → Ascends es
ascends_by_steps [] f = tt
ascends_by_steps (e ∷ []) f = (tt, tt)
ascends_by_steps (e ∷ x ∷ es) f =
    let rest = ascends_by_steps (x ∷ es) (λ k d l. f (suc k) d (omega arith)) in
    let first : e.0 <ℤ x.0 = f 0 e (omega arith) in ((first, below_all e.0 x.0 es first rest.0), rest)

steps_by_ascent : (es : Exceptions) → Ascends es → (k : ℕ) (d : ℤ × Value) → suc k < length es → (get_or es k d).0 <ℤ (get_or es (suc k) d).0
steps_by_ascent [] a k d l = absurd (omega arith)
steps_by_ascent (e ∷ []) a k d l = absurd (omega arith)
steps_by_ascent (e ∷ x ∷ es) a zero d l = a.0.0
steps_by_ascent (e ∷ x ∷ es) a (suc k) d l = steps_by_ascent (x ∷ es) a.1 k d (omega arith)

pub ordered_by_steps : (es : Exceptions) → ((k : ℕ) (d : ℤ × Value) → k + 1 < length es → (get_or es k d).0 <ℤ (get_or es (k + 1) d).0) → IsOrdered es
ordered_by_steps es f =
    IsAscending-from es (ascends_by_steps es (λ k d l. subst (λ n. (get_or es k d).0 <ℤ (get_or es n d).0) (omega arith) (f k d (omega arith))))

step_down : (es : Exceptions) (k : ℕ) (d : ℤ × Value) → suc k < length es → ((get_or es k d).0 <ℤ (get_or es (suc k) d).0 → ⊥) → IsOrdered es → ⊥
step_down es k d l n o = n (steps_by_ascent es (Ascends-from es o) k d l)

-- an index that isn't above the one before it
pub step_down_at : (es : Exceptions) (i : ℕ) (x y : ℤ × Value) → 0 < i → i < length es → x ≡ get_or es (i - 1) x → y ≡ get_or es i y → (x.0 <ℤ y.0 → ⊥) → IsOrdered es → ⊥
step_down_at es zero x y p l e f n o = omega arith
step_down_at es (suc k) x y p l e f n o =
    let at : x ≡ get_or es k x = subst (λ m. x ≡ get_or es m x) (omega arith) e in
    let no = pair_read es (λ (a b : ℤ × Value). a.0 <ℤ b.0 → ⊥) k (suc k) x y (omega arith) l at f n x in step_down es k x l no o
