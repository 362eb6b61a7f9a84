-- The laws of the operators on datatypes: at most one value, of the operator's sort.
use Rattle.std.proofs.Common.{◌≡◌, ◌≢◌, ◌⊎◌, ℕ, List, [], ◌∷◌, map, Option, Some, None, All, slice_get, is_some, option_map, ◌&&◌, inl, inr, refl, sym, ap, ◌∙◌, subst}
use Rattle.std.specs.Prelude.{nat_eq}
use Rattle.std.proofs.lemmas.Option.{none-some, same_Some}
use Rattle.chc_sorts.specs.declared.sort.Sort.{Sort}
use Rattle.chc_sorts.specs.declared.sort.Sort.TheVariants as sort
use Rattle.chc_sorts.specs.declared.data.Data.{Data}
use Rattle.chc_sorts.specs.declared.data.Ctor.{Ctor}
use Rattle.chc_sorts.specs.declared.data.Field.{Field}
use Rattle.chc_sorts.specs.declared.op.Op.TheVariants as op
use Rattle.chc_sorts.specs.Signature.{Signature}
use Rattle.chc_values.specs.declared.value.Value.{Value}
use Rattle.chc_values.specs.declared.value.Value.TheVariants as value
use Rattle.chc_values.specs.declared.world.WorldEntry.{WorldEntry}
use Rattle.chc_values.specs.Values.{HasFields, IsOf, AreOf}
use Rattle.chc_values.specs.Worlds.{IsWorld, KeysOnce, EntryFits, SelectsOpen}
use Rattle.chc_values.proofs.Datatypes.{one_fields, same_data, fields_held, data_of, one_selected, selected_of}
use Rattle.chc_terms.specs.Has.{Applies}
use Rattle.chc_sorts.specs.Sorts.{same_sorts}
use Rattle.chc_terms.specs.Sorted.{op_sort, fields_of, when}
use Rattle.chc_terms.proofs.SameSort.{same_sorts_from_test}
use Rattle.chc_terms.proofs.OperatorLaws.{DatatypesFit}
use Rattle.chc_terms.proofs.OperatorShapes.{OperatorFits, when_some, led_on, bool_of, AreOf-one}
use Rattle.chc_terms.proofs.Variables.{AreOf-get}

-- an option that is mapped to a value holds one
mapped : {A B : Type 0} (f : A → B) (o : Option A) (y : B) → option_map f o ≡ Some y → (x : A) × (o ≡ Some x) × (f x ≡ y)
mapped f None y h = absurd (none-some y h)
mapped f (Some x) y h = (x, refl, same_Some (f x) y h)

pub fields_from : (sig : Signature) (d c : ℕ) (sorts : List Sort) → fields_of sig d c ≡ Some sorts → HasFields sig d c sorts
fields_from sig d c sorts h =
    let t = led_on (λ (t : Data). option_map (λ (k : Ctor). map (λ (f : Field). f.sort) k.fields) (slice_get t.ctors c)) (slice_get sig.datatypes d) sorts h in
    let k = mapped (λ (k : Ctor). map (λ (f : Field). f.sort) k.fields) (slice_get t.0.ctors c) sorts t.2 in
    (t.0, k.0, t.1, k.1, k.2)

module _ (sig : Signature) (w : List WorldEntry) where
  make_of : (d c : ℕ) (sorts : List Sort) (s : Sort) → op_sort sig (op.Make d c) sorts ≡ Some s → (vs : List Value) → AreOf sig vs sorts → (v : Value) → Applies sig w (op.Make d c) vs v → IsOf sig v s
  make_of d c sorts s h vs a v x =
      let t = led_on (λ fields. when (same_sorts sorts fields) (sort.Data d)) (fields_of sig d c) s h in
      let u = when_some (same_sorts sorts t.0) (sort.Data d) s t.2 in
      let e = same_sorts_from_test sorts t.0 u.0 in
      subst (λ y. IsOf sig y s) (sym x) (subst (IsOf sig (value.Data d c vs)) u.1 (data_of sig d c vs t.0 (fields_from sig d c t.0 t.1) (subst (AreOf sig vs) e a)))

  pub make_fits : (d c : ℕ) → OperatorFits sig w (op.Make d c)
  make_fits d c = record { one = λ sorts s h vs a u v x y. x ∙ sym y; of = make_of d c }

  is_of : (d c : ℕ) (sorts : List Sort) (s : Sort) → op_sort sig (op.Is d c) sorts ≡ Some s → (v : Value) (k : ℕ) → v ≡ value.Bool (nat_eq k c) → IsOf sig v s
  is_of d c sorts s h v k e = bool_of sig (nat_eq k c) s v (when_some (is_some (fields_of sig d c) && same_sorts sorts (sort.Data d ∷ [])) sort.Bool s h).1 e

  same_alone : (a b : Value) (vs : List Value) → vs ≡ a ∷ [] → vs ≡ b ∷ [] → a ≡ b
  same_alone a b vs p q = cc

  is_one : (d c : ℕ) (vs : List Value) (u v : Value) → Applies sig w (op.Is d c) vs u → Applies sig w (op.Is d c) vs v → u ≡ v
  is_one d c vs u v x y =
      let e = same_data d x.0 d y.0 x.1 y.1 (same_alone (value.Data d x.0 x.1) (value.Data d y.0 y.1) vs x.2 y.2) in
      x.3 ∙ ap (λ k. value.Bool (nat_eq k c)) e.1 ∙ sym y.3

  pub is_fits : (d c : ℕ) → OperatorFits sig w (op.Is d c)
  is_fits d c = record { one = λ sorts s h vs a u v x y. is_one d c vs u v x y; of = λ sorts s h vs a v x. is_of d c sorts s h v x.0 x.3 }

  -- the field of the value where its constructor is the selector's, and what the world says where it isn't
  abbrev Got : ℕ → ℕ → ℕ → ℕ → List Value → Value → Type 0
  Got d c i k fields v = ((k ≡ c) × (slice_get fields i ≡ Some v)) ⊎ ((k ≢ c) × SelectsOpen sig w d c i (value.Data d k fields) v)

  one_got : KeysOnce w → (d c i k : ℕ) (fields : List Value) (u v : Value) → Got d c i k fields u → Got d c i k fields v → u ≡ v
  one_got once d c i k fields u v (inl p) (inl q) = same_Some u v (sym p.1 ∙ q.1)
  one_got once d c i k fields u v (inl p) (inr q) = absurd (q.0 p.0)
  one_got once d c i k fields u v (inr p) (inl q) = absurd (p.0 q.0)
  one_got once d c i k fields u v (inr p) (inr q) = one_selected sig w d c i (value.Data d k fields) u v once p.1 q.1

  get_one : KeysOnce w → (d c i : ℕ) (vs : List Value) (u v : Value) → Applies sig w (op.Get d c i) vs u → Applies sig w (op.Get d c i) vs v → u ≡ v
  get_one once d c i vs u v x y =
      let e = same_data d x.0 d y.0 x.1 y.1 (same_alone (value.Data d x.0 x.1) (value.Data d y.0 y.1) vs x.2 y.2) in
      one_got once d c i y.0 y.1 u v (subst (λ (t : ℕ × List Value). Got d c i t.0 t.1 u) (λ j. (e.1 j, e.2 j)) x.3) y.3

  got_of : All (EntryFits sig) w → (d c i k : ℕ) (fields : List Value) (v : Value) (sorts : List Sort) (s : Sort) → HasFields sig d c sorts → slice_get sorts i ≡ Some s
      → IsOf sig (value.Data d k fields) (sort.Data d) → Got d c i k fields v → IsOf sig v s
  got_of fit d c i k fields v sorts s h g o (inl p) =
      let t = fields_held sig d k fields d o in
      let e = one_fields sig d c t.0 sorts (subst (λ x. HasFields sig d x t.0) p.0 t.1) h in
      AreOf-get sig fields sorts i v s (subst (AreOf sig fields) e t.2) p.1 g
  got_of fit d c i k fields v sorts s h g o (inr p) = selected_of sig w d c i (value.Data d k fields) v sorts s fit h g p.1

  get_of : All (EntryFits sig) w → (d c i : ℕ) (sorts : List Sort) (s : Sort) → op_sort sig (op.Get d c i) sorts ≡ Some s → (vs : List Value) → AreOf sig vs sorts
      → (v : Value) → Applies sig w (op.Get d c i) vs v → IsOf sig v s
  get_of fit d c i sorts s h vs a v x =
      let t = led_on _ (fields_of sig d c) s h in
      let u = led_on (λ r. when (same_sorts sorts (sort.Data d ∷ [])) r) (slice_get t.0 i) s t.2 in
      let z = when_some (same_sorts sorts (sort.Data d ∷ [])) u.0 s u.2 in
      let o = AreOf-one sig vs (sort.Data d) (subst (AreOf sig vs) (same_sorts_from_test sorts (sort.Data d ∷ []) z.0) a) in
      let e = same_alone o.0 (value.Data d x.0 x.1) vs o.1 x.2 in
      got_of fit d c i x.0 x.1 v t.0 s (fields_from sig d c t.0 t.1) (u.1 ∙ ap Some z.1) (subst (λ y. IsOf sig y (sort.Data d)) e o.2) x.3

  pub get_fits : IsWorld sig w → (d c i : ℕ) → OperatorFits sig w (op.Get d c i)
  get_fits world d c i = record { one = λ sorts s h vs a u v x y. get_one world.0 d c i vs u v x y; of = get_of world.1 d c i }

  pub datatypes_fit : IsWorld sig w → DatatypesFit sig w
  datatypes_fit world = record { make_fits = make_fits; get_fits = get_fits world; is_fits = is_fits }
