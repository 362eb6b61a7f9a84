-- The equations of `judged`, one for each variant, and its steps over lists.
use Rattle.std.proofs.Common.{◌≡◌, ℕ, ℤ, List, ◌++◌, length, Bool, Result, Ok, slice_get, ap, sym, ◌∙◌}
use Rattle.std.proofs.lemmas.List.{length-map}
use Rattle.chc_sorts.specs.declared.sort.Sort.{Sort}
use Rattle.chc_sorts.specs.declared.sort.Sort.TheVariants as sort
use Rattle.chc_sorts.specs.declared.op.Op.{Op}
use Rattle.chc_terms.specs.declared.context.SortErr.{SortErr}
use Rattle.chc_terms.specs.declared.context.SortErr.TheVariants as refusal
use Rattle.chc_terms.specs.declared.term.Kind.{Kind}
use Rattle.chc_terms.specs.declared.term.Term.{Term, Term-F, fold-roll-Term}
use Rattle.chc_terms.specs.declared.term.Term.TheVariants.{Var, Num, Lit, App, Pred, Quant, Call, rolls-Var, rolls-Num, rolls-Lit, rolls-App, rolls-Pred, rolls-Quant, rolls-Call}
use Rattle.chc_terms.specs.Sorted.{Context}
use Rattle.chc_terms.specs.Judged.{or_refused, judged_operation, judged_atom, judged_call, judged_quantifier, judged_step, judged, judged_all}

abbrev Judgement : Type 0
Judgement = List Sort → Result Sort SortErr

module _ (cx : Context) where
  pub judged-Var : (i : ℕ) (vars : List Sort) → judged cx (Var i) vars ≡ or_refused refusal.Unbound (slice_get vars i)
  unfolding judged
  judged-Var i vars = λ j. (ap (judged cx) (sym (rolls-Var i)) ∙ fold-roll-Term Judgement (judged_step cx) (Term-F.Var i)) j vars

  pub judged-Num : (n : ℤ) (vars : List Sort) → judged cx (Num n) vars ≡ Ok sort.Int
  unfolding judged
  judged-Num n vars = λ j. (ap (judged cx) (sym (rolls-Num n)) ∙ fold-roll-Term Judgement (judged_step cx) (Term-F.Num n)) j vars

  pub judged-Lit : (b : Bool) (vars : List Sort) → judged cx (Lit b) vars ≡ Ok sort.Bool
  unfolding judged
  judged-Lit b vars = λ j. (ap (judged cx) (sym (rolls-Lit b)) ∙ fold-roll-Term Judgement (judged_step cx) (Term-F.Lit b)) j vars

  pub judged-App : (o : Op) (ts : List Term) (vars : List Sort)
      → judged cx (App o ts) vars ≡ judged_operation cx.sig o (length ts) (judged_all cx ts vars)
  unfolding judged
  judged-App o ts vars = (λ j. (ap (judged cx) (sym (rolls-App o ts)) ∙ fold-roll-Term Judgement (judged_step cx) (Term-F.App o ts)) j vars)
      ∙ ap (λ n. judged_operation cx.sig o n (judged_all cx ts vars)) (length-map ts (judged cx))

  pub judged-Pred : (p : ℕ) (ts : List Term) (vars : List Sort)
      → judged cx (Pred p ts) vars ≡ judged_atom (slice_get cx.preds p) (length ts) (judged_all cx ts vars)
  unfolding judged
  judged-Pred p ts vars = (λ j. (ap (judged cx) (sym (rolls-Pred p ts)) ∙ fold-roll-Term Judgement (judged_step cx) (Term-F.Pred p ts)) j vars)
      ∙ ap (λ n. judged_atom (slice_get cx.preds p) n (judged_all cx ts vars)) (length-map ts (judged cx))

  pub judged-Quant : (k : Kind) (sorts : List Sort) (t : Term) (vars : List Sort)
      → judged cx (Quant k sorts t) vars ≡ judged_quantifier cx.sig sorts (judged cx t (vars ++ sorts))
  unfolding judged
  judged-Quant k sorts t vars = λ j. (ap (judged cx) (sym (rolls-Quant k sorts t)) ∙ fold-roll-Term Judgement (judged_step cx) (Term-F.Quant k sorts t)) j vars

  pub judged-Call : (k : ℕ) (ts : List Term) (vars : List Sort)
      → judged cx (Call k ts) vars ≡ judged_call (slice_get cx.defs k) (length ts) (judged_all cx ts vars)
  unfolding judged
  judged-Call k ts vars = (λ j. (ap (judged cx) (sym (rolls-Call k ts)) ∙ fold-roll-Term Judgement (judged_step cx) (Term-F.Call k ts)) j vars)
      ∙ ap (λ n. judged_call (slice_get cx.defs k) n (judged_all cx ts vars)) (length-map ts (judged cx))

-- the equations of judged
pub ruleset judges = (judged-Var, judged-Num, judged-Lit, judged-App, judged-Pred, judged-Quant, judged-Call)
