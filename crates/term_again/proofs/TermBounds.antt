-- Well-sorted terms reach no further than the datatypes of their signature.
use Rattle.std.proofs.Common.{◌≡◌, ◌∙◌, sym, ℕ, ◌+◌, ◌≤◌, ◌<◌, true, ◌&&◌, nat_lt, List, [], ◌∷◌, ◌++◌, length, map, Some, slice_get, option_and_then, arith}
use Rattle.std.specs.Prelude.{is_some}
use Rattle.std.specs.List.{list_all, AllByRecursion}
use Rattle.std.proofs.lemmas.Bool.{and_parts}
use Rattle.std.proofs.lemmas.Bool.Decides.{nat_tests}
use Rattle.std.proofs.lemmas.Option.{slice_get_within}
use Rattle.chc_sorts.specs.declared.sort.Sort.{Sort}
use Rattle.chc_sorts.specs.declared.sort.Sort.TheVariants as sort
use Rattle.chc_sorts.specs.declared.op.Op.{Op}
use Rattle.chc_sorts.specs.declared.op.Op.TheVariants as op
use Rattle.chc_sorts.specs.Signature.{Signature}
use Rattle.chc_sorts.specs.Sorts.{same_sorts, sort_fits}
use Rattle.chc_sorts.proofs.SameSort.{sort_ind}
use Rattle.chc_terms.specs.declared.term.Kind.{Kind}
use Rattle.chc_terms.specs.declared.term.Term.{Term}
use Rattle.chc_terms.specs.declared.term.Term.TheVariants.{App, Pred, Quant, Call}
use Rattle.chc_terms.specs.Sorted.{Context, sort_of, sorts_of, op_sort, op_fits, fields_of, is_declared, sorts_fit, when, truth_at, result_at}
use Rattle.chc_terms.proofs.Induction.{term_ind}
use Rattle.chc_terms.proofs.SortLaws.{sort_of-App, sort_of-Pred, sort_of-Quant, sort_of-Call, sorts_fit-App, sorts_fit-Pred, sorts_fit-Quant, sorts_fit-Call}
use Rattle.chc_terms.proofs.OperatorShapes.{when_some}
use Rattle.chc_terms.proofs.SortTests.{is_declared-Data, is_declared-Array}
use Rattle.chc_print.specs.Reach.{sort_reach, sorts_reach, op_reach, term_reach, terms_reach}
use Rattle.term_again.specs.Terms.{WrittenIsNear}
use Rattle.term_again.proofs.TermHeads.{led_on, some_from, constructor_from}
use Rattle.term_again.proofs.TermOptions.{both_some, all_mapped}
use Rattle.term_again.proofs.TermQuantifiers.{quantified_body}
use Rattle.term_again.proofs.TermReach.{reach-Bool, reach-Int, reach-Data, reach-Array, reach-Var, reach-Num, reach-Lit, reach-App, reach-Pred, reach-Quant, reach-Call}

below_of : (d n : ℕ) → nat_lt d n ≡ true → d < n
below_of d n h = grind (arith, nat_tests)

module _ (sig : Signature) where
  -- ---- sorts

  pub declared_bound : (s : Sort) → is_declared sig s ≡ true → sort_reach s ≤ length sig.datatypes
  declared_bound = sort_ind (λ s. is_declared sig s ≡ true → sort_reach s ≤ length sig.datatypes) (record {
    of_bool = λ h. omega (arith, reach-Bool);
    of_int = λ h. omega (arith, reach-Int);
    of_data = λ d h. omega (arith, reach-Data d, below_of d (length sig.datatypes) (sym (is_declared-Data sig d) ∙ h));
    of_array = λ s ih h. omega (arith, reach-Array s, ih (sym (is_declared-Array sig s) ∙ h));
  })

  pub fitting_bound : (s : Sort) → sort_fits sig s ≡ true → sort_reach s ≤ length sig.datatypes
  fitting_bound s h = declared_bound s (and_parts (is_declared sig s) _ h).0

  -- ---- operators

  ctor_bound : (d c : ℕ) (ss : List Sort) → fields_of sig d c ≡ Some ss → d + 1 ≤ length sig.datatypes
  ctor_bound d c ss h =
      let k = constructor_from sig d c ss h in
      let low = slice_get_within sig.datatypes d k.of k.there in
      omega arith

  op_bound : (o : Op) (ss : List Sort) (s : Sort) → op_sort sig o ss ≡ Some s → op_fits sig o ≡ true → op_reach o ≤ length sig.datatypes
  op_bound (op.Const element) ss s h f = (let low = fitting_bound (sort.Array element) f in let same = reach-Array element in omega arith)
  op_bound (op.Make d c) ss s h f = let found = led_on (λ fields. when (same_sorts ss fields) (sort.Data d)) (fields_of sig d c) s h in ctor_bound d c found.0 found.1
  op_bound (op.Get d c i) ss s h f =
      let found = led_on (λ fields. option_and_then (λ s. when (same_sorts ss (sort.Data d ∷ [])) s) (slice_get fields i)) (fields_of sig d c) s h in
      ctor_bound d c found.0 found.1
  op_bound (op.Is d c) ss s h f =
      let test = is_some (fields_of sig d c) in
      let passed = when_some (test && same_sorts ss (sort.Data d ∷ [])) sort.Bool s h in
      let found = some_from (fields_of sig d c) (and_parts test (same_sorts ss (sort.Data d ∷ [])) passed.0).0 in
      ctor_bound d c found.0 found.1
  op_bound op.Not ss s h f = omega arith
  op_bound op.And ss s h f = omega arith
  op_bound op.Or ss s h f = omega arith
  op_bound op.Eq ss s h f = omega arith
  op_bound op.Ite ss s h f = omega arith
  op_bound op.Add ss s h f = omega arith
  op_bound op.Sub ss s h f = omega arith
  op_bound op.Mul ss s h f = omega arith
  op_bound op.Div ss s h f = omega arith
  op_bound op.Mod ss s h f = omega arith
  op_bound op.Le ss s h f = omega arith
  op_bound op.Lt ss s h f = omega arith
  op_bound op.Select ss s h f = omega arith
  op_bound op.Store ss s h f = omega arith

  sorts_bound : (ss : List Sort) → list_all (sort_fits sig) ss ≡ true → sorts_reach ss ≤ length sig.datatypes
  sorts_bound [] h = omega arith
  sorts_bound (s ∷ ss) h =
      let parts = and_parts (sort_fits sig s) (list_all (sort_fits sig) ss) h in
      let one = fitting_bound s parts.0 in
      let more = sorts_bound ss parts.1 in
      omega arith

module _ (cx : Context) where
  abbrev IsBound : Term → Type 0
  IsBound t = (vars : List Sort) (s : Sort) → sort_of cx t vars ≡ Some s → sorts_fit cx.sig t ≡ true → term_reach t ≤ length cx.sig.datatypes

  all_bound : (ts : List Term) → AllByRecursion IsBound ts → (vars ss : List Sort) → sorts_of cx ts vars ≡ Some ss → list_all (sorts_fit cx.sig) ts ≡ true → terms_reach ts ≤ length cx.sig.datatypes
  all_bound [] ih vars ss h f = omega arith
  all_bound (t ∷ ts) ih vars ss h f =
      let found = both_some (sort_of cx t vars) (sorts_of cx ts vars) ss h in
      let fits = and_parts (sorts_fit cx.sig t) (list_all (sorts_fit cx.sig) ts) f in
      let one = ih.0 vars found.0 found.2 fits.0 in
      let more = all_bound ts ih.1 vars found.1 found.3 fits.1 in
      omega arith

  app_bound : (o : Op) (ts : List Term) → AllByRecursion IsBound ts → IsBound (App o ts)
  app_bound o ts ih vars s h f =
      let found = led_on (op_sort cx.sig o) (sorts_of cx ts vars) s (sym (sort_of-App cx o ts vars) ∙ h) in
      let fits = and_parts (op_fits cx.sig o) (list_all (λ b. b) (map (sorts_fit cx.sig) ts)) (sym (sorts_fit-App cx.sig o ts) ∙ f) in
      let of_operator = op_bound cx.sig o found.0 s found.2 fits.0 in
      let of_parts = all_bound ts ih vars found.0 found.1 (all_mapped (sorts_fit cx.sig) ts fits.1) in
      let whole = reach-App o ts in
      omega arith

  pred_bound : (p : ℕ) (ts : List Term) → AllByRecursion IsBound ts → IsBound (Pred p ts)
  pred_bound p ts ih vars s h f =
      let found = led_on (λ sorts. truth_at sorts (slice_get cx.preds p)) (sorts_of cx ts vars) s (sym (sort_of-Pred cx p ts vars) ∙ h) in
      let of_parts = all_bound ts ih vars found.0 found.1 (all_mapped (sorts_fit cx.sig) ts (sym (sorts_fit-Pred cx.sig p ts) ∙ f)) in
      let whole = reach-Pred p ts in
      omega arith

  call_bound : (k : ℕ) (ts : List Term) → AllByRecursion IsBound ts → IsBound (Call k ts)
  call_bound k ts ih vars s h f =
      let found = led_on (λ sorts. result_at sorts (slice_get cx.defs k)) (sorts_of cx ts vars) s (sym (sort_of-Call cx k ts vars) ∙ h) in
      let of_parts = all_bound ts ih vars found.0 found.1 (all_mapped (sorts_fit cx.sig) ts (sym (sorts_fit-Call cx.sig k ts) ∙ f)) in
      let whole = reach-Call k ts in
      omega arith

  quant_bound : (k : Kind) (sorts : List Sort) (t : Term) → IsBound t → IsBound (Quant k sorts t)
  quant_bound k sorts t ih vars s h f =
      let body = quantified_body cx.sig sorts (sort_of cx t (vars ++ sorts)) s (sym (sort_of-Quant cx k sorts t vars) ∙ h) in
      let fits = and_parts (list_all (sort_fits cx.sig) sorts) (sorts_fit cx.sig t) (sym (sorts_fit-Quant cx.sig k sorts t) ∙ f) in
      let of_sorts = sorts_bound cx.sig sorts fits.0 in
      let of_body = ih (vars ++ sorts) sort.Bool body.body fits.1 in
      let whole = reach-Quant k sorts t in
      omega arith

  -- a well-sorted term reaches no further than its datatypes
  pub term_bound : (t : Term) → IsBound t
  term_bound = term_ind IsBound (record {
    of_var = λ i vars s h f. omega (arith, reach-Var i);
    of_num = λ n vars s h f. omega (arith, reach-Num n);
    of_lit = λ b vars s h f. omega (arith, reach-Lit b);
    of_app = app_bound;
    of_pred = pred_bound;
    of_quant = quant_bound;
    of_call = call_bound;
  })

  every_bound : (ts : List Term) → AllByRecursion IsBound ts
  every_bound [] = tt
  every_bound (t ∷ ts) = (term_bound t, every_bound ts)

  -- and no more do such terms
  pub terms_bound : (ts : List Term) (vars ss : List Sort) → sorts_of cx ts vars ≡ Some ss → list_all (sorts_fit cx.sig) ts ≡ true → terms_reach ts ≤ length cx.sig.datatypes
  terms_bound ts = all_bound ts (every_bound ts)

pub written_is_near : WrittenIsNear
written_is_near cx vars t of can = term_bound cx t vars of can.sorted can.fitting
