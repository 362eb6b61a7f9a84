-- What the laws of an operator are, and what its sort says of its arguments' values.
use Rattle.std.proofs.Common.{◌≡◌, ◌↔◌, ℤ, Bool, true, false, List, [], ◌∷◌, Option, Some, None, option_and_then, IsTrue, refl, sym, ap, ◌∙◌, subst}
use Rattle.std.proofs.lemmas.Bool.{false≢true}
use Rattle.std.proofs.lemmas.Option.{cond_some, same_Some, none-some}
use Rattle.chc_sorts.specs.declared.sort.Sort.{Sort, Sort-F, out-Sort, roll-Sort, roll-out-Sort}
use Rattle.chc_sorts.specs.declared.sort.Sort.TheVariants as sort
use Rattle.chc_sorts.specs.declared.op.Op.{Op}
use Rattle.chc_sorts.specs.declared.op.Op.TheVariants as op
use Rattle.chc_sorts.specs.Signature.{Signature}
use Rattle.chc_values.specs.declared.value.Value.{Value, Value-F, out-Value}
use Rattle.chc_values.specs.declared.value.Value.TheVariants as value
use Rattle.chc_values.specs.declared.world.WorldEntry.{WorldEntry}
use Rattle.chc_values.specs.Values.{IsOf, AreOf}
use Rattle.chc_values.proofs.ValueSorts.{IsOf-Bool, IsOf-Int, truth_value, integer_value}
use Rattle.chc_terms.specs.Has.{Applies}
use Rattle.chc_sorts.specs.Sorts.{same_sorts}
use Rattle.chc_terms.specs.Sorted.{op_sort, when, element_of, element_at}
use Rattle.chc_terms.proofs.SameSort.{same_sorts_from_test}

-- the operator gives at most one value, and one of its sort
pub record OperatorFits (sig : Signature) (w : List WorldEntry) (o : Op) : Type 0 where
  pub one : (sorts : List Sort) (s : Sort) → op_sort sig o sorts ≡ Some s → (vs : List Value) → AreOf sig vs sorts → (u v : Value) → Applies sig w o vs u → Applies sig w o vs v → u ≡ v
  pub of : (sorts : List Sort) (s : Sort) → op_sort sig o sorts ≡ Some s → (vs : List Value) → AreOf sig vs sorts → (v : Value) → Applies sig w o vs v → IsOf sig v s

-- the operator gives a value
abbrev pub OperatorAnswers : Signature → List WorldEntry → Op → Type 0
OperatorAnswers sig w o = (sorts : List Sort) (s : Sort) → op_sort sig o sorts ≡ Some s → (vs : List Value) → AreOf sig vs sorts → (v : Value) × Applies sig w o vs v

abbrev pub OperatorsFit : Signature → List WorldEntry → Type 0
OperatorsFit sig w = (o : Op) → OperatorFits sig w o

-- the operators whose value follows from all their arguments' values
abbrev pub IsStrict : Op → Type 0
IsStrict op.And = ⊥
IsStrict op.Or = ⊥
IsStrict op.Ite = ⊥
IsStrict o = Unit {0}

abbrev pub OperatorsAnswer : Signature → List WorldEntry → Type 0
OperatorsAnswer sig w = (o : Op) → IsStrict o → OperatorAnswers sig w o

pub when_some : (test : Bool) (s t : Sort) → when test s ≡ Some t → (test ≡ true) × (s ≡ t)
when_some test s t h = cond_some test s t h

-- an option that leads on to some value holds one
pub led_on : {A B : Type 0} (f : A → Option B) (o : Option A) (y : B) → option_and_then f o ≡ Some y → (x : A) × (o ≡ Some x) × (f x ≡ Some y)
led_on f None y h = absurd (none-some y h)
led_on f (Some x) y h = (x, refl, h)

pub element_from : (a e : Sort) → element_of a ≡ Some e → a ≡ sort.Array e
element_from a e h = sym (roll-out-Sort a) ∙ at (out-Sort a) h
  where
    at : (x : Sort-F Sort) → element_at x ≡ Some e → roll-Sort x ≡ sort.Array e
    at Sort-F.Bool h = absurd (none-some e h)
    at Sort-F.Int h = absurd (none-some e h)
    at (Sort-F.Data d) h = absurd (none-some e h)
    at (Sort-F.Array s) h = sort.rolls-Array s ∙ ap sort.Array (same_Some s e h)

pub same_array : (d e : Value) (xs ys : List (ℤ × Value)) → value.Array d xs ≡ value.Array e ys → (d ≡ e) × (xs ≡ ys)
same_array d e xs ys h =
    let f : Value-F.Array d xs ≡ Value-F.Array e ys = sym (value.outs-Array d xs) ∙ ap out-Value h ∙ value.outs-Array e ys in (cc, cc)

-- truth values that say the same are the same
pub same_truth : {P Q : Type 0} (r s : Bool) → IsTrue r ↔ P → IsTrue s ↔ Q → (P → Q) → (Q → P) → r ≡ s
same_truth true true p q f g = refl
same_truth true false p q f g = sym (q.1 (f (p.0 refl)))
same_truth false true p q f g = p.1 (g (q.0 refl))
same_truth false false p q f g = refl

pub truth_of : {P : Type 0} → Dec P → (r : Bool) × (IsTrue r ↔ P)
truth_of (yes p) = (true, ((λ e. p), (λ h. refl)))
truth_of (no n) = (false, ((λ e. absurd (false≢true e)), (λ h. absurd (n h))))

module _ (sig : Signature) where
  pub bool_of : (b : Bool) (s : Sort) (v : Value) → sort.Bool ≡ s → v ≡ value.Bool b → IsOf sig v s
  bool_of b s v e f = subst (λ u. IsOf sig u s) (sym f) (subst (λ A. A) (sym (IsOf-Bool sig b s)) (sym e))

  pub int_of : (n : ℤ) (s : Sort) (v : Value) → sort.Int ≡ s → v ≡ value.Int n → IsOf sig v s
  int_of n s v e f = subst (λ u. IsOf sig u s) (sym f) (subst (λ A. A) (sym (IsOf-Int sig n s)) (sym e))

  -- the only value of one sort, and the two of two
  pub AreOf-one : (vs : List Value) (s : Sort) → AreOf sig vs (s ∷ []) → (v : Value) × (vs ≡ v ∷ []) × IsOf sig v s
  AreOf-one [] s h = absurd h
  AreOf-one (v ∷ []) s h = (v, refl, h.0)
  AreOf-one (v ∷ u ∷ vs) s h = absurd h.1

  pub AreOf-two : (vs : List Value) (s t : Sort) → AreOf sig vs (s ∷ t ∷ []) → (v u : Value) × (vs ≡ v ∷ u ∷ []) × IsOf sig v s × IsOf sig u t
  AreOf-two [] s t h = absurd h
  AreOf-two (v ∷ []) s t h = absurd h.1
  AreOf-two (v ∷ u ∷ []) s t h = (v, u, refl, h.0, h.1.0)
  AreOf-two (v ∷ u ∷ w ∷ vs) s t h = absurd h.1.1

  pub AreOf-three : (vs : List Value) (s t r : Sort) → AreOf sig vs (s ∷ t ∷ r ∷ []) → (v u w : Value) × (vs ≡ v ∷ u ∷ w ∷ []) × IsOf sig v s × IsOf sig u t × IsOf sig w r
  AreOf-three [] s t r h = absurd h
  AreOf-three (v ∷ []) s t r h = absurd h.1
  AreOf-three (v ∷ u ∷ []) s t r h = absurd h.1.1
  AreOf-three (v ∷ u ∷ w ∷ []) s t r h = (v, u, w, refl, h.0, h.1.0, h.1.1.0)
  AreOf-three (v ∷ u ∷ w ∷ x ∷ vs) s t r h = absurd h.1.1.1

  -- arguments of one operator that takes two integers
  pub two_integers : (sorts : List Sort) (r s : Sort) → when (same_sorts sorts (sort.Int ∷ sort.Int ∷ [])) r ≡ Some s → (vs : List Value) → AreOf sig vs sorts
      → (a b : ℤ) × (vs ≡ value.Int a ∷ value.Int b ∷ [])
  two_integers sorts r s h vs a =
      let e = same_sorts_from_test sorts (sort.Int ∷ sort.Int ∷ []) (when_some (same_sorts sorts (sort.Int ∷ sort.Int ∷ [])) r s h).0 in
      let t = AreOf-two vs sort.Int sort.Int (subst (AreOf sig vs) e a) in
      let x = integer_value sig t.0 t.3 in let y = integer_value sig t.1 t.4 in
      (x.0, y.0, t.2 ∙ (λ i. x.1 i ∷ y.1 i ∷ []))

  pub one_truth : (sorts : List Sort) (r s : Sort) → when (same_sorts sorts (sort.Bool ∷ [])) r ≡ Some s → (vs : List Value) → AreOf sig vs sorts → (b : Bool) × (vs ≡ value.Bool b ∷ [])
  one_truth sorts r s h vs a =
      let e = same_sorts_from_test sorts (sort.Bool ∷ []) (when_some (same_sorts sorts (sort.Bool ∷ [])) r s h).0 in
      let t = AreOf-one vs sort.Bool (subst (AreOf sig vs) e a) in
      let x = truth_value sig t.0 t.2 in
      (x.0, t.1 ∙ (λ i. x.1 i ∷ []))
