-- The equations of `is_value_term`, one for each variant.
use Rattle.std.proofs.Common.{◌≡◌, ℕ, ℤ, List, map, Bool, true, false, ◌&&◌, ap, sym, ◌∙◌}
use Rattle.std.specs.List.{list_all}
use Rattle.chc_sorts.specs.declared.sort.Sort.{Sort}
use Rattle.chc_sorts.specs.declared.op.Op.{Op}
use Rattle.chc_terms.specs.declared.term.Kind.{Kind}
use Rattle.chc_terms.specs.declared.term.Term.{Term, Term-F, fold-roll-Term}
use Rattle.chc_terms.specs.declared.term.Term.TheVariants.{Var, Num, Lit, App, Pred, Quant, Call, rolls-Var, rolls-Num, rolls-Lit, rolls-App, rolls-Pred, rolls-Quant, rolls-Call}
use Rattle.chc_terms.specs.ValueTerms.{is_make, is_value_step, is_value_term}

pub is_value_term-Var : (i : ℕ) → is_value_term (Var i) ≡ false
is_value_term-Var i = ap is_value_term (sym (rolls-Var i)) ∙ fold-roll-Term Bool is_value_step (Term-F.Var i)

pub is_value_term-Num : (n : ℤ) → is_value_term (Num n) ≡ true
is_value_term-Num n = ap is_value_term (sym (rolls-Num n)) ∙ fold-roll-Term Bool is_value_step (Term-F.Num n)

pub is_value_term-Lit : (b : Bool) → is_value_term (Lit b) ≡ true
is_value_term-Lit b = ap is_value_term (sym (rolls-Lit b)) ∙ fold-roll-Term Bool is_value_step (Term-F.Lit b)

pub is_value_term-App : (o : Op) (ts : List Term) → is_value_term (App o ts) ≡ (is_make o && list_all (λ b. b) (map is_value_term ts))
is_value_term-App o ts = ap is_value_term (sym (rolls-App o ts)) ∙ fold-roll-Term Bool is_value_step (Term-F.App o ts)

pub is_value_term-Pred : (p : ℕ) (ts : List Term) → is_value_term (Pred p ts) ≡ false
is_value_term-Pred p ts = ap is_value_term (sym (rolls-Pred p ts)) ∙ fold-roll-Term Bool is_value_step (Term-F.Pred p ts)

pub is_value_term-Quant : (k : Kind) (sorts : List Sort) (t : Term) → is_value_term (Quant k sorts t) ≡ false
is_value_term-Quant k sorts t = ap is_value_term (sym (rolls-Quant k sorts t)) ∙ fold-roll-Term Bool is_value_step (Term-F.Quant k sorts t)

pub is_value_term-Call : (k : ℕ) (ts : List Term) → is_value_term (Call k ts) ≡ false
is_value_term-Call k ts = ap is_value_term (sym (rolls-Call k ts)) ∙ fold-roll-Term Bool is_value_step (Term-F.Call k ts)

-- the equations of is_value_term
pub ruleset equations = (is_value_term-Var, is_value_term-Num, is_value_term-Lit, is_value_term-App, is_value_term-Pred, is_value_term-Quant, is_value_term-Call)
