-- A term keeps its sort in a context that declares more.
use Rattle.std.proofs.Common.{◌≡◌, ℕ, List, [], ◌∷◌, ◌++◌, Some, slice_get, option_map, option_and_then, refl, sym, ap, ◌∙◌, subst}
use Rattle.std.specs.List.{AllByRecursion}
use Rattle.std.proofs.lemmas.Option.{none-some}
use Rattle.chc_sorts.specs.declared.sort.Sort.{Sort}
use Rattle.chc_sorts.specs.declared.sort.Sort.TheVariants as sort
use Rattle.chc_sorts.specs.declared.op.Op.{Op}
use Rattle.chc_sorts.specs.Signature.{Signature}
use Rattle.chc_terms.specs.declared.fun_sort.FunSort.{FunSort}
use Rattle.chc_terms.specs.declared.term.Kind.{Kind}
use Rattle.chc_terms.specs.declared.term.Term.{Term}
use Rattle.chc_terms.specs.declared.term.Term.TheVariants.{App, Pred, Quant, Call}
use Rattle.chc_terms.specs.Sorted.{Context, sort_of, sorts_of, op_sort, truth_at, result_at, declared_quantifier_sort, when}
use Rattle.chc_terms.proofs.Induction.{term_ind}
use Rattle.chc_terms.proofs.SameSort.{same_sorts_itself}
use Rattle.chc_terms.proofs.SortLaws.{sort_of-Var, sort_of-Num, sort_of-Lit, sort_of-App, sort_of-Pred, sort_of-Quant, sort_of-Call}
use Rattle.chc_terms.proofs.SortSteps.{sorts_of_more, app_sorts, pred_sorts, call_sorts, quant_sorts}

-- the larger context has the datatypes of the smaller, and all that it declares
pub record Extends (small large : Context) : Type 0 where
  pub same_sig : small.sig ≡ large.sig
  pub preds_kept : (p : ℕ) (params : List Sort) → slice_get small.preds p ≡ Some params → slice_get large.preds p ≡ Some params
  pub defs_kept : (k : ℕ) (f : FunSort) → slice_get small.defs k ≡ Some f → slice_get large.defs k ≡ Some f

-- nothing is declared but datatypes
abbrev pub alone : Signature → Context
alone sig = record { sig = sig; preds = []; defs = [] }

pub alone_extends : (cx : Context) → Extends (alone cx.sig) cx
alone_extends cx = record {
  same_sig = refl;
  preds_kept = λ p params h. absurd (none-some params h);
  defs_kept = λ k f h. absurd (none-some f h);
}

module _ (small large : Context) (more : Extends small large) where
  abbrev Kept : Term → Type 0
  Kept t = (vars : List Sort) (s : Sort) → sort_of small t vars ≡ Some s → sort_of large t vars ≡ Some s

  all_kept : (ts : List Term) → AllByRecursion Kept ts → (vars sorts : List Sort) → sorts_of small ts vars ≡ Some sorts → sorts_of large ts vars ≡ Some sorts
  all_kept [] f vars sorts h = h
  all_kept (t ∷ ts) f vars sorts h =
      let m = sorts_of_more small vars t ts sorts h in
      ap (option_and_then (λ s. option_map (λ ss. s ∷ ss) (sorts_of large ts vars))) (f.0 vars m.first m.first_of)
      ∙ ap (option_map (λ ss. m.first ∷ ss)) (all_kept ts f.1 vars m.others m.others_of) ∙ ap Some (sym m.sorts_are)

  app_kept : (o : Op) (ts : List Term) → AllByRecursion Kept ts → Kept (App o ts)
  app_kept o ts f vars s h =
      let g = app_sorts small vars o ts s h in
      sort_of-App large o ts vars ∙ ap (option_and_then (op_sort large.sig o)) (all_kept ts f vars g.sorts g.each)
      ∙ subst (λ sig. op_sort sig o g.sorts ≡ Some s) more.same_sig g.result

  pred_kept : (p : ℕ) (ts : List Term) → AllByRecursion Kept ts → Kept (Pred p ts)
  pred_kept p ts f vars s h =
      let g = pred_sorts small vars p ts s h in
      sort_of-Pred large p ts vars ∙ ap (option_and_then (λ sorts. truth_at sorts (slice_get large.preds p))) (all_kept ts f vars g.params g.each)
      ∙ ap (truth_at g.params) (more.preds_kept p g.params g.declared) ∙ ap (λ b. when b sort.Bool) (same_sorts_itself g.params) ∙ ap Some g.result

  call_kept : (k : ℕ) (ts : List Term) → AllByRecursion Kept ts → Kept (Call k ts)
  call_kept k ts f vars s h =
      let g = call_sorts small vars k ts s h in
      sort_of-Call large k ts vars ∙ ap (option_and_then (λ sorts. result_at sorts (slice_get large.defs k))) (all_kept ts f vars g.definition.params g.each)
      ∙ ap (result_at g.definition.params) (more.defs_kept k g.definition g.declared) ∙ ap (λ b. when b g.definition.result) (same_sorts_itself g.definition.params) ∙ ap Some g.result

  quant_kept : (k : Kind) (sorts : List Sort) (t : Term) → Kept t → Kept (Quant k sorts t)
  quant_kept k sorts t f vars s h =
      let g = quant_sorts small vars k sorts t s h in
      sort_of-Quant large k sorts t vars ∙ ap (declared_quantifier_sort large.sig sorts) (f (vars ++ sorts) sort.Bool g.0 ∙ sym g.0)
      ∙ ap (λ sig. declared_quantifier_sort sig sorts (sort_of small t (vars ++ sorts))) (sym more.same_sig) ∙ sym (sort_of-Quant small k sorts t vars) ∙ h

  pub sort_kept : (t : Term) (vars : List Sort) (s : Sort) → sort_of small t vars ≡ Some s → sort_of large t vars ≡ Some s
  sort_kept = term_ind Kept (record {
    of_var = λ i vars s h. sort_of-Var large i vars ∙ sym (sort_of-Var small i vars) ∙ h;
    of_num = λ n vars s h. sort_of-Num large n vars ∙ sym (sort_of-Num small n vars) ∙ h;
    of_lit = λ b vars s h. sort_of-Lit large b vars ∙ sym (sort_of-Lit small b vars) ∙ h;
    of_app = app_kept;
    of_pred = pred_kept;
    of_quant = quant_kept;
    of_call = call_kept;
  })

  all_terms_kept : (ts : List Term) → AllByRecursion Kept ts
  all_terms_kept [] = tt
  all_terms_kept (t ∷ ts) = (sort_kept t, all_terms_kept ts)

  pub sorts_kept : (ts : List Term) (vars sorts : List Sort) → sorts_of small ts vars ≡ Some sorts → sorts_of large ts vars ≡ Some sorts
  sorts_kept ts = all_kept ts (all_terms_kept ts)
