-- What a term's sort says of its parts, and a list's sorts of its terms.
use Rattle.std.proofs.Common.{◌≡◌, ℕ, Bool, true, false, cond, List, [], ◌∷◌, ◌++◌, Option, Some, None, slice_get, option_map, refl, sym, ap, ◌∙◌}
use Rattle.std.proofs.lemmas.Option.{none-some, same_Some}
use Rattle.chc_sorts.specs.declared.sort.Sort.{Sort}
use Rattle.chc_sorts.specs.declared.sort.Sort.TheVariants as sort
use Rattle.chc_sorts.specs.declared.op.Op.{Op}
use Rattle.chc_terms.specs.declared.fun_sort.FunSort.{FunSort}
use Rattle.chc_terms.specs.declared.term.Kind.{Kind}
use Rattle.chc_terms.specs.declared.term.Term.{Term}
use Rattle.chc_terms.specs.declared.term.Term.TheVariants.{App, Pred, Quant, Call}
use Rattle.chc_sorts.specs.Sorts.{same_sort, same_sorts}
use Rattle.chc_terms.specs.Sorted.{Context, sort_of, sorts_of, op_sort, truth_at, result_at, quantifier_sort, are_declared}
use Rattle.chc_terms.proofs.SameSort.{same_from_test, same_sorts_from_test}
use Rattle.chc_terms.proofs.SortLaws.{sort_of-App, sort_of-Pred, sort_of-Quant, sort_of-Call}
use Rattle.chc_terms.proofs.OperatorShapes.{when_some, led_on}

-- the sorts of the first term and of the others
pub record Sorts (cx : Context) (t : Term) (ts : List Term) (vars sorts : List Sort) : Type 0 where
  pub first : Sort
  pub others : List Sort
  pub first_of : sort_of cx t vars ≡ Some first
  pub others_of : sorts_of cx ts vars ≡ Some others
  pub sorts_are : sorts ≡ first ∷ others

module _ (cx : Context) (vars : List Sort) where
  pub sorts_of_more : (t : Term) (ts : List Term) (sorts : List Sort) → sorts_of cx (t ∷ ts) vars ≡ Some sorts → Sorts cx t ts vars sorts
  sorts_of_more t ts sorts h =
      let a = led_on (λ s. option_map (λ ss. s ∷ ss) (sorts_of cx ts vars)) (sort_of cx t vars) sorts h in
      let b = mapped a.0 (sorts_of cx ts vars) a.2 in
      record { first = a.0; others = b.0; first_of = a.1; others_of = b.1; sorts_are = b.2 }
    where
      mapped : (s : Sort) (o : Option (List Sort)) → option_map (λ ss. s ∷ ss) o ≡ Some sorts → (ss : List Sort) × (o ≡ Some ss) × (sorts ≡ s ∷ ss)
      mapped s None e = absurd (none-some sorts e)
      mapped s (Some ss) e = (ss, refl, sym (same_Some (s ∷ ss) sorts e))

  -- the arguments' sorts under an operator
  pub record AppSorts (o : Op) (ts : List Term) (s : Sort) : Type 0 where
    pub sorts : List Sort
    pub each : sorts_of cx ts vars ≡ Some sorts
    pub result : op_sort cx.sig o sorts ≡ Some s

  pub app_sorts : (o : Op) (ts : List Term) (s : Sort) → sort_of cx (App o ts) vars ≡ Some s → AppSorts o ts s
  app_sorts o ts s h =
      let t = led_on (op_sort cx.sig o) (sorts_of cx ts vars) s (sym (sort_of-App cx o ts vars) ∙ h) in
      record { sorts = t.0; each = t.1; result = t.2 }

  -- the arguments of a predicate have the sorts of its positions
  pub record PredSorts (p : ℕ) (ts : List Term) (s : Sort) : Type 0 where
    pub params : List Sort
    pub each : sorts_of cx ts vars ≡ Some params
    pub declared : slice_get cx.preds p ≡ Some params
    pub result : sort.Bool ≡ s

  pub pred_sorts : (p : ℕ) (ts : List Term) (s : Sort) → sort_of cx (Pred p ts) vars ≡ Some s → PredSorts p ts s
  pred_sorts p ts s h =
      let t = led_on (λ sorts. truth_at sorts (slice_get cx.preds p)) (sorts_of cx ts vars) s (sym (sort_of-Pred cx p ts vars) ∙ h) in
      at t.0 t.1 (slice_get cx.preds p) refl t.2
    where
      at : (sorts : List Sort) → sorts_of cx ts vars ≡ Some sorts → (o : Option (List Sort)) → slice_get cx.preds p ≡ o → truth_at sorts o ≡ Some s → PredSorts p ts s
      at sorts each None d e = absurd (none-some s e)
      at sorts each (Some params) d e =
          let w = when_some (same_sorts sorts params) sort.Bool s e in
          record { params = params; each = each ∙ ap Some (same_sorts_from_test sorts params w.0); declared = d; result = w.1 }

  pub record CallSorts (k : ℕ) (ts : List Term) (s : Sort) : Type 0 where
    pub definition : FunSort
    pub each : sorts_of cx ts vars ≡ Some definition.params
    pub declared : slice_get cx.defs k ≡ Some definition
    pub result : definition.result ≡ s

  pub call_sorts : (k : ℕ) (ts : List Term) (s : Sort) → sort_of cx (Call k ts) vars ≡ Some s → CallSorts k ts s
  call_sorts k ts s h =
      let t = led_on (λ sorts. result_at sorts (slice_get cx.defs k)) (sorts_of cx ts vars) s (sym (sort_of-Call cx k ts vars) ∙ h) in
      at t.0 t.1 (slice_get cx.defs k) refl t.2
    where
      at : (sorts : List Sort) → sorts_of cx ts vars ≡ Some sorts → (o : Option FunSort) → slice_get cx.defs k ≡ o → result_at sorts o ≡ Some s → CallSorts k ts s
      at sorts each None d e = absurd (none-some s e)
      at sorts each (Some f) d e =
          let w = when_some (same_sorts sorts f.params) f.result s e in
          record { definition = f; each = each ∙ ap Some (same_sorts_from_test sorts f.params w.0); declared = d; result = w.1 }

  -- the sort of a quantifier, and that its sorts are declared
  pub quant_declared : (k : Kind) (sorts : List Sort) (t : Term) (s : Sort) → sort_of cx (Quant k sorts t) vars ≡ Some s
      → (are_declared cx.sig sorts ≡ true) × (quantifier_sort sorts (sort_of cx t (vars ++ sorts)) ≡ Some s)
  quant_declared k sorts t s h = at (are_declared cx.sig sorts) (sym (sort_of-Quant cx k sorts t vars) ∙ h)
    where
      at : (b : Bool) → cond b (quantifier_sort sorts (sort_of cx t (vars ++ sorts))) None ≡ Some s → (b ≡ true) × (quantifier_sort sorts (sort_of cx t (vars ++ sorts)) ≡ Some s)
      at true e = (refl, e)
      at false e = absurd (none-some s e)

  -- the sort of a quantifier whose sorts are declared
  pub sort_of_quantifier : (k : Kind) (sorts : List Sort) (t : Term) → are_declared cx.sig sorts ≡ true → sort_of cx (Quant k sorts t) vars ≡ quantifier_sort sorts (sort_of cx t (vars ++ sorts))
  sort_of_quantifier k sorts t h = sort_of-Quant cx k sorts t vars ∙ ap (λ b. cond b (quantifier_sort sorts (sort_of cx t (vars ++ sorts))) None) h

  -- the body of a quantifier is a truth value
  pub quant_sorts : (k : Kind) (sorts : List Sort) (t : Term) (s : Sort) → sort_of cx (Quant k sorts t) vars ≡ Some s → (sort_of cx t (vars ++ sorts) ≡ Some sort.Bool) × (sort.Bool ≡ s)
  quant_sorts k sorts t s h = at sorts (sort_of cx t (vars ++ sorts)) (quant_declared k sorts t s h).1
    where
      at : (bound : List Sort) (o : Option Sort) → quantifier_sort bound o ≡ Some s → (o ≡ Some sort.Bool) × (sort.Bool ≡ s)
      at [] o e = absurd (none-some s e)
      at (b ∷ bs) None e = absurd (none-some s e)
      at (b ∷ bs) (Some body) e =
          let w = when_some (same_sort body sort.Bool) sort.Bool s e in (ap Some (same_from_test body sort.Bool w.0), w.1)
