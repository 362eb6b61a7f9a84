-- The equations of a term's text and of the number of variables that it binds, one for each variant.
use Rattle.std.proofs.Common.{◌≡◌, ◌∙◌, sym, ap, ℕ, ◌+◌, ℤ, Bool, List, length, map}
use Rattle.chc_sorts.specs.declared.sort.Sort.{Sort}
use Rattle.chc_sorts.specs.declared.op.Op.{Op}
use Rattle.chc_sexpr.specs.Symbols.{symbol_text}
use Rattle.chc_terms.specs.declared.term.Kind.{Kind}
use Rattle.chc_terms.specs.declared.term.Term.{Term, Term-F, fold-roll-Term}
use Rattle.chc_terms.specs.declared.term.Term.TheVariants.{Var, Num, Lit, App, Pred, Quant, Call, rolls-Var, rolls-Num, rolls-Lit, rolls-App, rolls-Pred, rolls-Quant, rolls-Call}
use Rattle.chc_terms.specs.Counts.{greatest}
use Rattle.chc_print.specs.Texts.{Names, name_at, applied, number_text, truth_text, op_text, variable_text, quantified, term_step, term_text, term_texts}
use Rattle.term_again.specs.Bound.{bound_step, most_bound}

module _ (names : Names) where
  pub text-Var : (i under : ℕ) → term_text names (Var i) under ≡ variable_text names i
  text-Var i under = λ j. (ap (term_text names) (sym (rolls-Var i)) ∙ fold-roll-Term (ℕ → List ℕ) (term_step names) (Term-F.Var i)) j under

  pub text-Num : (n : ℤ) (under : ℕ) → term_text names (Num n) under ≡ number_text n
  text-Num n under = λ j. (ap (term_text names) (sym (rolls-Num n)) ∙ fold-roll-Term (ℕ → List ℕ) (term_step names) (Term-F.Num n)) j under

  pub text-Lit : (b : Bool) (under : ℕ) → term_text names (Lit b) under ≡ truth_text b
  text-Lit b under = λ j. (ap (term_text names) (sym (rolls-Lit b)) ∙ fold-roll-Term (ℕ → List ℕ) (term_step names) (Term-F.Lit b)) j under

  pub text-App : (o : Op) (ts : List Term) (under : ℕ) → term_text names (App o ts) under ≡ applied (op_text names.sig o) (term_texts names under ts)
  text-App o ts under = λ j. (ap (term_text names) (sym (rolls-App o ts)) ∙ fold-roll-Term (ℕ → List ℕ) (term_step names) (Term-F.App o ts)) j under

  pub text-Pred : (p : ℕ) (ts : List Term) (under : ℕ) → term_text names (Pred p ts) under ≡ applied (symbol_text (name_at names.preds p)) (term_texts names under ts)
  text-Pred p ts under = λ j. (ap (term_text names) (sym (rolls-Pred p ts)) ∙ fold-roll-Term (ℕ → List ℕ) (term_step names) (Term-F.Pred p ts)) j under

  pub text-Quant : (k : Kind) (sorts : List Sort) (t : Term) (under : ℕ) → term_text names (Quant k sorts t) under ≡ quantified names k under sorts (term_text names t (under + length sorts))
  text-Quant k sorts t under = λ j. (ap (term_text names) (sym (rolls-Quant k sorts t)) ∙ fold-roll-Term (ℕ → List ℕ) (term_step names) (Term-F.Quant k sorts t)) j under

  pub text-Call : (k : ℕ) (ts : List Term) (under : ℕ) → term_text names (Call k ts) under ≡ applied (symbol_text (name_at names.calls k)) (term_texts names under ts)
  text-Call k ts under = λ j. (ap (term_text names) (sym (rolls-Call k ts)) ∙ fold-roll-Term (ℕ → List ℕ) (term_step names) (Term-F.Call k ts)) j under

pub bound-Var : (i : ℕ) → most_bound (Var i) ≡ 0
bound-Var i = ap most_bound (sym (rolls-Var i)) ∙ fold-roll-Term ℕ bound_step (Term-F.Var i)

pub bound-Num : (n : ℤ) → most_bound (Num n) ≡ 0
bound-Num n = ap most_bound (sym (rolls-Num n)) ∙ fold-roll-Term ℕ bound_step (Term-F.Num n)

pub bound-Lit : (b : Bool) → most_bound (Lit b) ≡ 0
bound-Lit b = ap most_bound (sym (rolls-Lit b)) ∙ fold-roll-Term ℕ bound_step (Term-F.Lit b)

pub bound-App : (o : Op) (ts : List Term) → most_bound (App o ts) ≡ greatest (map most_bound ts)
bound-App o ts = ap most_bound (sym (rolls-App o ts)) ∙ fold-roll-Term ℕ bound_step (Term-F.App o ts)

pub bound-Pred : (p : ℕ) (ts : List Term) → most_bound (Pred p ts) ≡ greatest (map most_bound ts)
bound-Pred p ts = ap most_bound (sym (rolls-Pred p ts)) ∙ fold-roll-Term ℕ bound_step (Term-F.Pred p ts)

pub bound-Quant : (k : Kind) (sorts : List Sort) (t : Term) → most_bound (Quant k sorts t) ≡ length sorts + most_bound t
bound-Quant k sorts t = ap most_bound (sym (rolls-Quant k sorts t)) ∙ fold-roll-Term ℕ bound_step (Term-F.Quant k sorts t)

pub bound-Call : (k : ℕ) (ts : List Term) → most_bound (Call k ts) ≡ greatest (map most_bound ts)
bound-Call k ts = ap most_bound (sym (rolls-Call k ts)) ∙ fold-roll-Term ℕ bound_step (Term-F.Call k ts)
