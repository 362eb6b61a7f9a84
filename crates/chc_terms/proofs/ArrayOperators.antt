-- The laws of Select, Store and Const.
use Rattle.std.proofs.Common.{◌≡◌, ℤ, ◌&&◌, List, [], ◌∷◌, Some, refl, sym, ap, ◌∙◌, subst}
use Rattle.std.proofs.lemmas.Option.{none-some}
use Rattle.chc_sorts.specs.declared.sort.Sort.{Sort}
use Rattle.chc_sorts.specs.declared.sort.Sort.TheVariants as sort
use Rattle.chc_sorts.specs.declared.op.Op.TheVariants as op
use Rattle.chc_sorts.specs.Signature.{Signature}
use Rattle.chc_values.specs.declared.value.Value.{Value}
use Rattle.chc_values.specs.declared.value.Value.TheVariants as value
use Rattle.chc_values.specs.declared.world.WorldEntry.{WorldEntry}
use Rattle.chc_values.specs.Values.{IsOf, AreOf}
use Rattle.chc_values.proofs.ValueSorts.{HoldsOf, held_by_array, array_of, array_value, integer_value}
use Rattle.chc_values.proofs.Exceptions.{Canonical-from, IsCanonical-from, value_at}
use Rattle.chc_values.specs.Arrays.{HasAt, Stores}
use Rattle.chc_terms.specs.Has.{Applies}
use Rattle.chc_sorts.specs.Sorts.{same_sort, same_sorts}
use Rattle.chc_terms.specs.Sorted.{read_sort, write_sort, element_of, when, is_declared}
use Rattle.chc_terms.proofs.SameSort.{same_from_test, same_sorts_from_test, both_true}
use Rattle.chc_values.proofs.ArrayLaws.{HasAt-is, HasAt-found, one_at, one_store, some_store, stored_all, value_at-all}
use Rattle.chc_terms.proofs.OperatorShapes.{OperatorFits, OperatorAnswers, when_some, led_on, element_from, same_array, AreOf-one, AreOf-two, AreOf-three}

-- what is read, and what is written, by the arguments' sorts
record Reading (sorts : List Sort) (s : Sort) : Type 0 where
  array : Sort
  index : Sort
  sorts_are : sorts ≡ array ∷ index ∷ []
  array_is : array ≡ sort.Array s
  index_is : index ≡ sort.Int

reading : (sorts : List Sort) (s : Sort) → read_sort sorts ≡ Some s → Reading sorts s
reading [] s h = absurd (none-some s h)
reading (a ∷ []) s h = absurd (none-some s h)
reading (a ∷ i ∷ []) s h =
    let t = led_on (λ e. when (same_sort i sort.Int) e) (element_of a) s h in
    let u = when_some (same_sort i sort.Int) t.0 s t.2 in
    record { array = a; index = i; sorts_are = refl; array_is = element_from a t.0 t.1 ∙ ap sort.Array u.1; index_is = same_from_test i sort.Int u.0 }
reading (a ∷ i ∷ c ∷ more) s h = absurd (none-some s h)

record Writing (sorts : List Sort) (s : Sort) : Type 0 where
  array : Sort
  index : Sort
  element : Sort
  sorts_are : sorts ≡ array ∷ index ∷ element ∷ []
  array_is : array ≡ sort.Array element
  index_is : index ≡ sort.Int
  result_is : s ≡ sort.Array element

writing : (sorts : List Sort) (s : Sort) → write_sort sorts ≡ Some s → Writing sorts s
writing [] s h = absurd (none-some s h)
writing (a ∷ []) s h = absurd (none-some s h)
writing (a ∷ i ∷ []) s h = absurd (none-some s h)
writing (a ∷ i ∷ v ∷ []) s h =
    let t = led_on (λ e. when (same_sort i sort.Int && same_sort v e) a) (element_of a) s h in
    let u = when_some (same_sort i sort.Int && same_sort v t.0) a s t.2 in
    let b = both_true (same_sort i sort.Int) (same_sort v t.0) u.0 in
    let e = same_from_test v t.0 b.1 in
    let f = element_from a t.0 t.1 ∙ ap sort.Array (sym e) in
    record { array = a; index = i; element = v; sorts_are = refl; array_is = f; index_is = same_from_test i sort.Int b.0; result_is = sym u.1 ∙ f }
writing (a ∷ i ∷ v ∷ d ∷ more) s h = absurd (none-some s h)

module _ (sig : Signature) where
  -- the array and the index that are read
  record ReadAt (vs : List Value) (s : Sort) : Type 0 where
    default : Value
    exceptions : List (ℤ × Value)
    index : ℤ
    values_are : vs ≡ value.Array default exceptions ∷ value.Int index ∷ []
    holds : HoldsOf sig default exceptions s

  read_values : (sorts : List Sort) (s : Sort) → Reading sorts s → (vs : List Value) → AreOf sig vs sorts → ReadAt vs s
  read_values sorts s r vs a =
      let t = AreOf-two sig vs r.array r.index (subst (AreOf sig vs) r.sorts_are a) in
      let p = subst (IsOf sig t.0) r.array_is t.3 in
      let x = array_value sig s t.0 p in let i = integer_value sig t.1 (subst (IsOf sig t.1) r.index_is t.4) in
      record {
        default = x.0;
        exceptions = x.1;
        index = i.0;
        values_are = t.2 ∙ (λ k. x.2 k ∷ i.1 k ∷ []);
        holds = held_by_array sig x.0 x.1 s (subst (λ v. IsOf sig v (sort.Array s)) x.2 p);
      }

  record WrittenAt (vs : List Value) (element : Sort) : Type 0 where
    default : Value
    exceptions : List (ℤ × Value)
    index : ℤ
    stored : Value
    values_are : vs ≡ value.Array default exceptions ∷ value.Int index ∷ stored ∷ []
    holds : HoldsOf sig default exceptions element
    stored_of : IsOf sig stored element

  written_values : (sorts : List Sort) (s : Sort) (r : Writing sorts s) → (vs : List Value) → AreOf sig vs sorts → WrittenAt vs r.element
  written_values sorts s r vs a =
      let t = AreOf-three sig vs r.array r.index r.element (subst (AreOf sig vs) r.sorts_are a) in
      let p = subst (IsOf sig t.0) r.array_is t.4 in
      let x = array_value sig r.element t.0 p in let i = integer_value sig t.1 (subst (IsOf sig t.1) r.index_is t.5) in
      record {
        default = x.0;
        exceptions = x.1;
        index = i.0;
        stored = t.2;
        values_are = t.3 ∙ (λ k. x.2 k ∷ i.1 k ∷ t.2 ∷ []);
        holds = held_by_array sig x.0 x.1 r.element (subst (λ v. IsOf sig v (sort.Array r.element)) x.2 p);
        stored_of = t.6;
      }

  same_read : (a b i j : Value) (vs : List Value) → vs ≡ a ∷ i ∷ [] → vs ≡ b ∷ j ∷ [] → (a ≡ b) × (i ≡ j)
  same_read a b i j vs p q = (cc, cc)

  same_index : (i j : ℤ) → value.Int i ≡ value.Int j → i ≡ j
  same_index i j e = cc

  module _ (w : List WorldEntry) where
    -- what is read, at the array and the index that stand there
    read_at : (vs : List Value) (s : Sort) (r : ReadAt vs s) (v : Value) → Applies sig w op.Select vs v → HasAt r.default r.exceptions r.index v
    read_at vs s r v x =
        let e = same_read (value.Array x.0 x.1) (value.Array r.default r.exceptions) (value.Int x.2) (value.Int r.index) vs x.3 r.values_are in
        let p = same_array x.0 r.default x.1 r.exceptions e.0 in let q = same_index x.2 r.index e.1 in
        subst (λ (t : record { d : Value; es : List (ℤ × Value); i : ℤ }). HasAt t.d t.es t.i v) (λ k. record { d = p.0 k; es = p.1 k; i = q k }) x.4

    select_one : (sorts : List Sort) (s : Sort) → read_sort sorts ≡ Some s → (vs : List Value) → AreOf sig vs sorts → (u v : Value) → Applies sig w op.Select vs u → Applies sig w op.Select vs v → u ≡ v
    select_one sorts s h vs a u v x y =
        let r = read_values sorts s (reading sorts s h) vs a in
        one_at r.default r.exceptions r.index u v (Canonical-from r.default r.exceptions r.holds.canonical).ascends (read_at vs s r u x) (read_at vs s r v y)

    select_of : (sorts : List Sort) (s : Sort) → read_sort sorts ≡ Some s → (vs : List Value) → AreOf sig vs sorts → (v : Value) → Applies sig w op.Select vs v → IsOf sig v s
    select_of sorts s h vs a v x =
        let r = read_values sorts s (reading sorts s h) vs a in
        let c = (Canonical-from r.default r.exceptions r.holds.canonical).ascends in
        subst (λ u. IsOf sig u s) (sym (HasAt-is r.default r.exceptions r.index v c (read_at vs s r v x)))
        (value_at-all (λ u. IsOf sig u s) r.default r.exceptions r.index c r.holds.default_of r.holds.each_of)

    pub select_fits : OperatorFits sig w op.Select
    select_fits = record { one = select_one; of = select_of }

    pub select_answers : OperatorAnswers sig w op.Select
    select_answers sorts s h vs a =
        let r = read_values sorts s (reading sorts s h) vs a in
        let c = (Canonical-from r.default r.exceptions r.holds.canonical).ascends in
        (value_at r.default r.exceptions r.index, (r.default, r.exceptions, r.index, r.values_are, HasAt-found r.default r.exceptions r.index c))

    -- what is written, at the array, the index and the value that stand there
    record WroteAt (vs : List Value) (s : Sort) (r : WrittenAt vs s) (v : Value) : Type 0 where
      new : List (ℤ × Value)
      result_is : v ≡ value.Array r.default new
      stores : Stores r.default r.exceptions r.index r.stored new

    same_written : (a b i j u v : Value) (vs : List Value) → vs ≡ a ∷ i ∷ u ∷ [] → vs ≡ b ∷ j ∷ v ∷ [] → (a ≡ b) × (i ≡ j) × (u ≡ v)
    same_written a b i j u v vs p q = (cc, cc, cc)

    wrote_at : (vs : List Value) (s : Sort) (r : WrittenAt vs s) (v : Value) → Applies sig w op.Store vs v → WroteAt vs s r v
    wrote_at vs s r v x =
        let e = same_written (value.Array x.0 x.1) (value.Array r.default r.exceptions) (value.Int x.3) (value.Int r.index) x.4 r.stored vs x.5 r.values_are in
        let p = same_array x.0 r.default x.1 r.exceptions e.0 in let q = same_index x.3 r.index e.1 in
        record {
          new = x.2;
          result_is = x.6 ∙ ap (λ d. value.Array d x.2) p.0;
          stores = subst (λ (t : record { d : Value; es : List (ℤ × Value); i : ℤ; u : Value }). Stores t.d t.es t.i t.u x.2)
              (λ k. record { d = p.0 k; es = p.1 k; i = q k; u = e.2 k }) x.7;
        }

    store_one : (sorts : List Sort) (s : Sort) → write_sort sorts ≡ Some s → (vs : List Value) → AreOf sig vs sorts → (u v : Value) → Applies sig w op.Store vs u → Applies sig w op.Store vs v → u ≡ v
    store_one sorts s h vs a u v x y =
        let g = writing sorts s h in
        let r = written_values sorts s g vs a in
        let c = (Canonical-from r.default r.exceptions r.holds.canonical).ascends in
        let p = wrote_at vs g.element r u x in let q = wrote_at vs g.element r v y in
        p.result_is ∙ ap (value.Array r.default) (one_store r.default r.exceptions r.index r.stored p.new q.new c p.stores q.stores) ∙ sym q.result_is

    store_of : (sorts : List Sort) (s : Sort) → write_sort sorts ≡ Some s → (vs : List Value) → AreOf sig vs sorts → (v : Value) → Applies sig w op.Store vs v → IsOf sig v s
    store_of sorts s h vs a v x =
        let g = writing sorts s h in
        let r = written_values sorts s g vs a in
        let c = (Canonical-from r.default r.exceptions r.holds.canonical).ascends in
        let p = wrote_at vs g.element r v x in
        let o = array_of sig r.default p.new g.element (record {
          default_of = r.holds.default_of;
          each_of = stored_all (λ u. IsOf sig u g.element) r.default r.exceptions r.index r.stored p.new c p.stores r.holds.default_of r.holds.each_of r.stored_of;
          canonical = p.stores.0;
        }) in
        subst (λ u. IsOf sig u s) (sym p.result_is) (subst (IsOf sig (value.Array r.default p.new)) (sym g.result_is) o)

    pub store_fits : OperatorFits sig w op.Store
    store_fits = record { one = store_one; of = store_of }

    pub store_answers : OperatorAnswers sig w op.Store
    store_answers sorts s h vs a =
        let g = writing sorts s h in
        let r = written_values sorts s g vs a in
        let n = some_store r.default r.exceptions r.index r.stored (Canonical-from r.default r.exceptions r.holds.canonical) in
        (value.Array r.default n.0, (r.default, r.exceptions, n.0, r.index, r.stored, r.values_are, refl, n.1))

    const_one : (element : Sort) (vs : List Value) (u v : Value) → Applies sig w (op.Const element) vs u → Applies sig w (op.Const element) vs v → u ≡ v
    const_one element vs u v x y = let e : x.0 ≡ y.0 = cc in x.2 ∙ ap (λ d. value.Array d []) e ∙ sym y.2

    -- the element sort of a constant array is that of its argument
    const_sorts : (element : Sort) (sorts : List Sort) (s : Sort) → when (is_declared sig element && same_sorts sorts (element ∷ [])) (sort.Array element) ≡ Some s
        → (sorts ≡ element ∷ []) × (sort.Array element ≡ s)
    const_sorts element sorts s h =
        let t = when_some (is_declared sig element && same_sorts sorts (element ∷ [])) (sort.Array element) s h in
        (same_sorts_from_test sorts (element ∷ []) (both_true (is_declared sig element) (same_sorts sorts (element ∷ [])) t.0).1, t.1)

    const_of : (element : Sort) (sorts : List Sort) (s : Sort) → when (is_declared sig element && same_sorts sorts (element ∷ [])) (sort.Array element) ≡ Some s → (vs : List Value) → AreOf sig vs sorts
        → (v : Value) → Applies sig w (op.Const element) vs v → IsOf sig v s
    const_of element sorts s h vs a v x =
        let t = const_sorts element sorts s h in
        let o = AreOf-one sig vs element (subst (AreOf sig vs) t.0 a) in
        let e : x.0 ≡ o.0 = cc in
        let q = array_of sig x.0 [] element (record {
          default_of = subst (λ u. IsOf sig u element) (sym e) o.2;
          each_of = tt;
          canonical = IsCanonical-from x.0 [] (record { ascends = tt; no_defaults = tt });
        }) in
        subst (λ u. IsOf sig u s) (sym x.2) (subst (IsOf sig (value.Array x.0 [])) t.1 q)

    pub const_fits : (element : Sort) → OperatorFits sig w (op.Const element)
    const_fits element = record { one = λ sorts s h vs a u v x y. const_one element vs u v x y; of = const_of element }

    pub const_answers : (element : Sort) → OperatorAnswers sig w (op.Const element)
    const_answers element sorts s h vs a =
        let t = const_sorts element sorts s h in
        let o = AreOf-one sig vs element (subst (AreOf sig vs) t.0 a) in
        (value.Array o.0 [], (o.0, o.1, refl))
