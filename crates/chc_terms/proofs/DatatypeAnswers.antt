-- The operators on datatypes give a value under a well founded signature.
use Rattle.std.proofs.Common.{◌≡◌, ◌≢◌, ◌⊎◌, ℕ, List, [], ◌∷◌, Some, slice_get, is_some, ◌&&◌, inl, inr, refl, ap, ◌∙◌, subst}
use Rattle.std.specs.Prelude.{nat_eq}
use native.Mathlib.Decide.{ℕ_discrete}
use Rattle.chc_sorts.specs.declared.sort.Sort.{Sort}
use Rattle.chc_sorts.specs.declared.sort.Sort.TheVariants as sort
use Rattle.chc_sorts.specs.declared.op.Op.TheVariants as op
use Rattle.chc_sorts.specs.Signature.{Signature}
use Rattle.chc_sorts.specs.Sorts.{same_sorts}
use Rattle.chc_sorts.specs.WellFounded.{IsWellFounded}
use Rattle.chc_values.specs.declared.value.Value.{Value}
use Rattle.chc_values.specs.declared.value.Value.TheVariants as value
use Rattle.chc_values.specs.declared.world.WorldEntry.{WorldEntry}
use Rattle.chc_values.specs.Values.{HasFields, IsOf, AreOf}
use Rattle.chc_values.specs.Worlds.{SelectsOpen}
use Rattle.chc_values.proofs.ValueSorts.{data_value}
use Rattle.chc_values.proofs.Datatypes.{one_fields, fields_held}
use Rattle.chc_values.proofs.DefaultExists.{field_default}
use Rattle.chc_values.proofs.Selected.{some_selected}
use Rattle.chc_terms.specs.Sorted.{fields_of, when}
use Rattle.chc_terms.proofs.SameSort.{same_sorts_from_test, both_true}
use Rattle.chc_terms.proofs.OperatorLaws.{DatatypesAnswer}
use Rattle.chc_terms.proofs.OperatorShapes.{OperatorAnswers, when_some, led_on, AreOf-one}
use Rattle.chc_terms.proofs.DatatypeOperators.{fields_from}
use Rattle.chc_terms.proofs.Variables.{AreOf-some}

module _ (sig : Signature) where
  -- the only argument of an operator that takes a value of the datatype
  record OneData (d : ℕ) (vs : List Value) : Type 0 where
    constructor : ℕ
    fields : List Value
    alone : vs ≡ value.Data d constructor fields ∷ []
    of_sort : IsOf sig (value.Data d constructor fields) (sort.Data d)

  one_data : (d : ℕ) (sorts : List Sort) (vs : List Value) → sorts ≡ sort.Data d ∷ [] → AreOf sig vs sorts → OneData d vs
  one_data d sorts vs e a =
      let o = AreOf-one sig vs (sort.Data d) (subst (AreOf sig vs) e a) in
      let t = data_value sig d o.0 o.2 in
      record { constructor = t.0; fields = t.1; alone = o.1 ∙ ap (λ v. v ∷ []) t.2; of_sort = subst (λ v. IsOf sig v (sort.Data d)) t.2 o.2 }

module _ (sig : Signature) (w : List WorldEntry) where
  make_answers : (d c : ℕ) → OperatorAnswers sig w (op.Make d c)
  make_answers d c sorts s h vs a = (value.Data d c vs, refl)

  is_answers : (d c : ℕ) → OperatorAnswers sig w (op.Is d c)
  is_answers d c sorts s h vs a =
      let test = (when_some (is_some (fields_of sig d c) && same_sorts sorts (sort.Data d ∷ [])) sort.Bool s h).0 in
      let e = same_sorts_from_test sorts (sort.Data d ∷ []) (both_true (is_some (fields_of sig d c)) (same_sorts sorts (sort.Data d ∷ [])) test).1 in
      let o = one_data sig d sorts vs e a in
      (value.Bool (nat_eq o.constructor c), (o.constructor, o.fields, o.alone, refl))

  -- the field of the value where its constructor is the selector's, and what the world says where it isn't
  abbrev Got : ℕ → ℕ → ℕ → ℕ → List Value → Value → Type 0
  Got d c i k fields v = ((k ≡ c) × (slice_get fields i ≡ Some v)) ⊎ ((k ≢ c) × SelectsOpen sig w d c i (value.Data d k fields) v)

  module _ (founded : IsWellFounded sig) where
    some_got : (d c i k : ℕ) (fields : List Value) (sorts : List Sort) (s : Sort) → HasFields sig d c sorts → slice_get sorts i ≡ Some s
        → IsOf sig (value.Data d k fields) (sort.Data d) → Dec (k ≡ c) → (v : Value) × Got d c i k fields v
    some_got d c i k fields sorts s h g o (yes p) =
        let t = fields_held sig d k fields d o in
        let e = one_fields sig d c t.0 sorts (subst (λ x. HasFields sig d x t.0) p t.1) h in
        let v = AreOf-some sig fields sorts i s (subst (AreOf sig fields) e t.2) g in
        (v.0, inl (p, v.1))
    some_got d c i k fields sorts s h g o (no n) =
        let u = field_default sig founded d c i sorts s h g in
        let r = some_selected sig w d c i (value.Data d k fields) sorts s h g u.0 u.1 in
        (r.0, inr (n, r.1))

    get_answers : (d c i : ℕ) → OperatorAnswers sig w (op.Get d c i)
    get_answers d c i sorts s h vs a =
        let t = led_on _ (fields_of sig d c) s h in
        let u = led_on (λ r. when (same_sorts sorts (sort.Data d ∷ [])) r) (slice_get t.0 i) s t.2 in
        let z = when_some (same_sorts sorts (sort.Data d ∷ [])) u.0 s u.2 in
        let o = one_data sig d sorts vs (same_sorts_from_test sorts (sort.Data d ∷ []) z.0) a in
        let v = some_got d c i o.constructor o.fields t.0 u.0 (fields_from sig d c t.0 t.1) u.1 o.of_sort (ℕ_discrete o.constructor c) in
        (v.0, (o.constructor, o.fields, o.alone, v.1))

    -- the operators on datatypes give a value
    pub datatypes_answer : DatatypesAnswer sig w
    datatypes_answer = record { make_answers = make_answers; get_answers = get_answers; is_answers = is_answers }
