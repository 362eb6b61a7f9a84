-- A term keeps its sort, and fits still, where more datatypes and more predicates are declared.
use Rattle.std.proofs.Common.{◌≡◌, ◌≤◌, ℕ, true, ◌&&◌, List, [], ◌∷◌, ◌++◌, length, Option, Some, None, map, slice_get, option_map, option_and_then, refl, sym, ap, ◌∙◌, arith}
use Rattle.std.specs.Prelude.{is_some, nat_lt}
use Rattle.std.specs.List.{AllByRecursion, list_all}
use Rattle.std.proofs.lemmas.Bool.{and_parts, and_from, ltb-true, lt-ltb}
use Rattle.std.proofs.lemmas.Option.{none-some}
use Rattle.chc_sorts.specs.declared.sort.Sort.{Sort}
use Rattle.chc_sorts.specs.declared.sort.Sort.TheVariants as sort
use Rattle.chc_sorts.specs.declared.op.Op.{Op}
use Rattle.chc_sorts.specs.declared.op.Op.TheVariants as op
use Rattle.chc_sorts.specs.declared.data.Data.{Data}
use Rattle.chc_sorts.specs.declared.data.Ctor.{Ctor}
use Rattle.chc_sorts.specs.declared.data.Field.{Field}
use Rattle.chc_sorts.specs.Signature.{Signature}
use Rattle.chc_sorts.specs.Sorts.{same_sorts, sort_depth, sort_fits}
use Rattle.chc_sorts.proofs.SameSort.{sort_ind}
use Rattle.chc_terms.specs.declared.fun_sort.FunSort.{FunSort}
use Rattle.chc_terms.specs.declared.term.Kind.{Kind}
use Rattle.chc_terms.specs.declared.term.Term.{Term}
use Rattle.chc_terms.specs.declared.term.Term.TheVariants.{App, Pred, Quant, Call}
use Rattle.chc_terms.specs.Sorted.{Context, sort_of, sorts_of, op_sort, truth_at, result_at, quantifier_sort, when, is_declared, are_declared, fields_of, op_fits, sorts_fit}
use Rattle.chc_terms.specs.Numbers.{numbers_fit}
use Rattle.chc_terms.proofs.Induction.{term_ind}
use Rattle.chc_terms.proofs.OperatorShapes.{when_some, led_on}
use Rattle.chc_terms.proofs.SameSort.{same_sorts_itself}
use Rattle.chc_terms.proofs.SortTests.{is_declared-Bool, is_declared-Int, is_declared-Data, is_declared-Array}
use Rattle.chc_terms.proofs.SortLaws.{sort_of-Var, sort_of-Num, sort_of-Lit, sort_of-App, sort_of-Pred, sort_of-Call, sorts_fit-Var, sorts_fit-Num, sorts_fit-Lit, sorts_fit-App, sorts_fit-Pred, sorts_fit-Quant, sorts_fit-Call}
use Rattle.chc_terms.proofs.SortSteps.{sorts_of_more, app_sorts, pred_sorts, call_sorts, quant_declared, sort_of_quantifier}
use Rattle.chc_state.specs.WellFormed.{term_fits}

-- the larger signature has all datatypes of the smaller, by the same numbers
pub record Holds (small large : Signature) : Type 0 where
  pub kept : (d : ℕ) (t : Data) → slice_get small.datatypes d ≡ Some t → slice_get large.datatypes d ≡ Some t
  pub more : length small.datatypes ≤ length large.datatypes

-- the sorts of a constructor's fields
abbrev sorts_of_fields : Ctor → List Sort
sorts_of_fields k = map (λ (f : Field). f.sort) k.fields

module _ (small large : Signature) (h : Holds small large) where
  declared_kept : (s : Sort) → is_declared small s ≡ true → is_declared large s ≡ true
  declared_kept = sort_ind (λ s. is_declared small s ≡ true → is_declared large s ≡ true) (record {
    of_bool = λ e. is_declared-Bool large;
    of_int = λ e. is_declared-Int large;
    of_data = λ d e.
        let below = ltb-true d (length small.datatypes) (sym (is_declared-Data small d) ∙ e) in
        is_declared-Data large d ∙ lt-ltb d (length large.datatypes) (omega (arith, below, h.more));
    of_array = λ s f e. is_declared-Array large s ∙ f (sym (is_declared-Array small s) ∙ e);
  })

  all_declared_kept : (sorts : List Sort) → are_declared small sorts ≡ true → are_declared large sorts ≡ true
  all_declared_kept [] e = e
  all_declared_kept (s ∷ sorts) e =
      let b = and_parts (is_declared small s) (are_declared small sorts) e in
      ap (λ x. x && are_declared large sorts) (declared_kept s b.0) ∙ all_declared_kept sorts b.1

  -- sorts that fit the smaller fit the larger
  pub fit_kept : (s : Sort) → sort_fits small s ≡ true → sort_fits large s ≡ true
  fit_kept s e =
      let b = and_parts (is_declared small s) (nat_lt (sort_depth s) 17) e in
      ap (λ x. x && nat_lt (sort_depth s) 17) (declared_kept s b.0) ∙ b.1

  fields_kept : (d c : ℕ) (fields : List Sort) → fields_of small d c ≡ Some fields → fields_of large d c ≡ Some fields
  fields_kept d c fields e =
      let t = led_on (λ (t : Data). option_map sorts_of_fields (slice_get t.ctors c)) (slice_get small.datatypes d) fields e in
      ap (option_and_then (λ (t : Data). option_map sorts_of_fields (slice_get t.ctors c))) (h.kept d t.0 t.1) ∙ t.2

  some_kept : (d c : ℕ) → is_some (fields_of small d c) ≡ true → is_some (fields_of large d c) ≡ true
  some_kept d c e = by (fields_of small d c) refl e
    where
      by : (o : Option (List Sort)) → fields_of small d c ≡ o → is_some o ≡ true → is_some (fields_of large d c) ≡ true
      by None p g = cc
      by (Some fields) p g = ap is_some (fields_kept d c fields p)

  op_kept : (o : Op) (sorts : List Sort) (s : Sort) → op_sort small o sorts ≡ Some s → op_sort large o sorts ≡ Some s
  op_kept op.Not sorts s e = e
  op_kept op.And sorts s e = e
  op_kept op.Or sorts s e = e
  op_kept op.Eq sorts s e = e
  op_kept op.Ite sorts s e = e
  op_kept op.Add sorts s e = e
  op_kept op.Sub sorts s e = e
  op_kept op.Mul sorts s e = e
  op_kept op.Div sorts s e = e
  op_kept op.Mod sorts s e = e
  op_kept op.Le sorts s e = e
  op_kept op.Lt sorts s e = e
  op_kept op.Select sorts s e = e
  op_kept op.Store sorts s e = e
  op_kept (op.Const element) sorts s e =
      let w = when_some (is_declared small element && same_sorts sorts (element ∷ [])) (sort.Array element) s e in
      let b = and_parts (is_declared small element) (same_sorts sorts (element ∷ [])) w.0 in
      ap (λ x. when (x && same_sorts sorts (element ∷ [])) (sort.Array element)) (declared_kept element b.0)
      ∙ ap (λ x. when x (sort.Array element)) b.1 ∙ ap (λ (x : Sort). Some x) w.1
  op_kept (op.Make d c) sorts s e =
      let t = led_on (λ fields. when (same_sorts sorts fields) (sort.Data d)) (fields_of small d c) s e in
      ap (option_and_then (λ fields. when (same_sorts sorts fields) (sort.Data d))) (fields_kept d c t.0 t.1) ∙ t.2
  op_kept (op.Get d c i) sorts s e =
      let t = led_on (λ (fields : List Sort). option_and_then (λ r. when (same_sorts sorts (sort.Data d ∷ [])) r) (slice_get fields i)) (fields_of small d c) s e in
      ap (option_and_then (λ (fields : List Sort). option_and_then (λ r. when (same_sorts sorts (sort.Data d ∷ [])) r) (slice_get fields i))) (fields_kept d c t.0 t.1) ∙ t.2
  op_kept (op.Is d c) sorts s e =
      let w = when_some (is_some (fields_of small d c) && same_sorts sorts (sort.Data d ∷ [])) sort.Bool s e in
      let b = and_parts (is_some (fields_of small d c)) (same_sorts sorts (sort.Data d ∷ [])) w.0 in
      ap (λ x. when (x && same_sorts sorts (sort.Data d ∷ [])) sort.Bool) (some_kept d c b.0)
      ∙ ap (λ x. when x sort.Bool) b.1 ∙ ap (λ (x : Sort). Some x) w.1

  -- what fits the smaller fits the larger
  all_fit_kept : (sorts : List Sort) → list_all (sort_fits small) sorts ≡ true → list_all (sort_fits large) sorts ≡ true
  all_fit_kept [] e = e
  all_fit_kept (s ∷ sorts) e =
      let b = and_parts (sort_fits small s) (list_all (sort_fits small) sorts) e in
      and_from (sort_fits large s) (list_all (sort_fits large) sorts) (fit_kept s b.0) (all_fit_kept sorts b.1)

  op_fit_kept : (o : Op) → op_fits small o ≡ true → op_fits large o ≡ true
  op_fit_kept (op.Const element) e = fit_kept (sort.Array element) e
  op_fit_kept o e = refl

  abbrev Fitting : Term → Type 0
  Fitting t = sorts_fit small t ≡ true → sorts_fit large t ≡ true

  each_fit : (ts : List Term) → AllByRecursion Fitting ts → list_all (λ b. b) (map (sorts_fit small) ts) ≡ true → list_all (λ b. b) (map (sorts_fit large) ts) ≡ true
  each_fit [] f e = refl
  each_fit (t ∷ ts) f e =
      let b = and_parts (sorts_fit small t) (list_all (λ b. b) (map (sorts_fit small) ts)) e in
      and_from (sorts_fit large t) (list_all (λ b. b) (map (sorts_fit large) ts)) (f.0 b.0) (each_fit ts f.1 b.1)

  app_fit : (o : Op) (ts : List Term) → AllByRecursion Fitting ts → Fitting (App o ts)
  app_fit o ts f e =
      let b = and_parts (op_fits small o) (list_all (λ b. b) (map (sorts_fit small) ts)) (sym (sorts_fit-App small o ts) ∙ e) in
      sorts_fit-App large o ts ∙ and_from (op_fits large o) (list_all (λ b. b) (map (sorts_fit large) ts)) (op_fit_kept o b.0) (each_fit ts f b.1)

  quant_fit : (k : Kind) (sorts : List Sort) (t : Term) → Fitting t → Fitting (Quant k sorts t)
  quant_fit k sorts t f e =
      let b = and_parts (list_all (sort_fits small) sorts) (sorts_fit small t) (sym (sorts_fit-Quant small k sorts t) ∙ e) in
      sorts_fit-Quant large k sorts t ∙ and_from (list_all (sort_fits large) sorts) (sorts_fit large t) (all_fit_kept sorts b.0) (f b.1)

  sorts_fit_kept : (t : Term) → sorts_fit small t ≡ true → sorts_fit large t ≡ true
  sorts_fit_kept = term_ind Fitting (record {
    of_var = λ i e. sorts_fit-Var large i;
    of_num = λ n e. sorts_fit-Num large n;
    of_lit = λ b e. sorts_fit-Lit large b;
    of_app = app_fit;
    of_pred = λ p ts f e. sorts_fit-Pred large p ts ∙ each_fit ts f (sym (sorts_fit-Pred small p ts) ∙ e);
    of_quant = quant_fit;
    of_call = λ k ts f e. sorts_fit-Call large k ts ∙ each_fit ts f (sym (sorts_fit-Call small k ts) ∙ e);
  })

  pub term_fit_kept : (t : Term) → term_fits small t ≡ true → term_fits large t ≡ true
  term_fit_kept t e =
      let b = and_parts (sorts_fit small t) (numbers_fit t) e in
      and_from (sorts_fit large t) (numbers_fit t) (sorts_fit_kept t b.0) b.1

-- the larger context declares all that the smaller does
pub record Declares (small large : Context) : Type 0 where
  pub datas_kept : Holds small.sig large.sig
  pub preds_kept : (p : ℕ) (params : List Sort) → slice_get small.preds p ≡ Some params → slice_get large.preds p ≡ Some params
  pub defs_kept : (k : ℕ) (f : FunSort) → slice_get small.defs k ≡ Some f → slice_get large.defs k ≡ Some f

module _ (small large : Context) (more : Declares small large) where
  abbrev Kept : Term → Type 0
  Kept t = (vars : List Sort) (s : Sort) → sort_of small t vars ≡ Some s → sort_of large t vars ≡ Some s

  all_kept : (ts : List Term) → AllByRecursion Kept ts → (vars sorts : List Sort) → sorts_of small ts vars ≡ Some sorts → sorts_of large ts vars ≡ Some sorts
  all_kept [] f vars sorts h = h
  all_kept (t ∷ ts) f vars sorts h =
      let m = sorts_of_more small vars t ts sorts h in
      ap (option_and_then (λ s. option_map (λ ss. s ∷ ss) (sorts_of large ts vars))) (f.0 vars m.first m.first_of)
      ∙ ap (option_map (λ ss. m.first ∷ ss)) (all_kept ts f.1 vars m.others m.others_of) ∙ ap Some (sym m.sorts_are)

  app_kept : (o : Op) (ts : List Term) → AllByRecursion Kept ts → Kept (App o ts)
  app_kept o ts f vars s h =
      let g = app_sorts small vars o ts s h in
      sort_of-App large o ts vars ∙ ap (option_and_then (op_sort large.sig o)) (all_kept ts f vars g.sorts g.each)
      ∙ op_kept small.sig large.sig more.datas_kept o g.sorts s g.result

  pred_kept : (p : ℕ) (ts : List Term) → AllByRecursion Kept ts → Kept (Pred p ts)
  pred_kept p ts f vars s h =
      let g = pred_sorts small vars p ts s h in
      sort_of-Pred large p ts vars ∙ ap (option_and_then (λ sorts. truth_at sorts (slice_get large.preds p))) (all_kept ts f vars g.params g.each)
      ∙ ap (truth_at g.params) (more.preds_kept p g.params g.declared) ∙ ap (λ b. when b sort.Bool) (same_sorts_itself g.params) ∙ ap Some g.result

  call_kept : (k : ℕ) (ts : List Term) → AllByRecursion Kept ts → Kept (Call k ts)
  call_kept k ts f vars s h =
      let g = call_sorts small vars k ts s h in
      sort_of-Call large k ts vars ∙ ap (option_and_then (λ sorts. result_at sorts (slice_get large.defs k))) (all_kept ts f vars g.definition.params g.each)
      ∙ ap (result_at g.definition.params) (more.defs_kept k g.definition g.declared) ∙ ap (λ b. when b g.definition.result) (same_sorts_itself g.definition.params) ∙ ap Some g.result

  quantified : (sorts : List Sort) (a b : Option Sort) (s : Sort) → ((r : Sort) → a ≡ Some r → b ≡ Some r) → quantifier_sort sorts a ≡ Some s → quantifier_sort sorts b ≡ Some s
  quantified [] a b s k h = absurd (none-some s h)
  quantified (x ∷ sorts) None b s k h = absurd (none-some s h)
  quantified (x ∷ sorts) (Some r) b s k h = ap (quantifier_sort (x ∷ sorts)) (k r refl) ∙ h

  quant_kept : (k : Kind) (sorts : List Sort) (t : Term) → Kept t → Kept (Quant k sorts t)
  quant_kept k sorts t f vars s h =
      let g = quant_declared small vars k sorts t s h in
      sort_of_quantifier large vars k sorts t (all_declared_kept small.sig large.sig more.datas_kept sorts g.0)
      ∙ quantified sorts (sort_of small t (vars ++ sorts)) (sort_of large t (vars ++ sorts)) s (λ r e. f (vars ++ sorts) r e) g.1

  pub sort_kept : (t : Term) (vars : List Sort) (s : Sort) → sort_of small t vars ≡ Some s → sort_of large t vars ≡ Some s
  sort_kept = term_ind Kept (record {
    of_var = λ i vars s h. sort_of-Var large i vars ∙ sym (sort_of-Var small i vars) ∙ h;
    of_num = λ n vars s h. sort_of-Num large n vars ∙ sym (sort_of-Num small n vars) ∙ h;
    of_lit = λ b vars s h. sort_of-Lit large b vars ∙ sym (sort_of-Lit small b vars) ∙ h;
    of_app = app_kept;
    of_pred = pred_kept;
    of_quant = quant_kept;
    of_call = call_kept;
  })
