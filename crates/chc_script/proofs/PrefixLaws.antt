-- The quantifiers in front of a term, at each variant.
use Rattle.std.proofs.Common.{◌≡◌, ℕ, ℤ, List, ◌++◌, map, Bool, cond, ap, sym, ◌∙◌}
use Rattle.chc_sorts.specs.declared.sort.Sort.{Sort}
use Rattle.chc_sorts.specs.declared.op.Op.{Op}
use Rattle.chc_terms.specs.declared.term.Kind.{Kind}
use Rattle.chc_terms.specs.declared.term.Term.{Term, Term-F, para-roll-Term}
use Rattle.chc_terms.specs.declared.term.Term.TheVariants.{Var, Num, Lit, App, Pred, Quant, Call, rolls-Var, rolls-Num, rolls-Lit, rolls-App, rolls-Pred, rolls-Quant, rolls-Call}
use Rattle.chc_script.specs.Horn.{Stripping, stripping, prefix_step, prefix_of, left, binds, operator_stripped}
use Rattle.chc_script.specs.declared.horn.side.Side.{Side}

module _ (s : Side) (vars : List Sort) where
  pub prefix-Var : (i : ℕ) → prefix_of (Var i) s vars ≡ left (Var i) s vars
  unfolding stripping
  prefix-Var i = λ j. (ap stripping (sym (rolls-Var i)) ∙ para-roll-Term Stripping prefix_step (Term-F.Var i)) j (Var i) s vars

  pub prefix-Num : (n : ℤ) → prefix_of (Num n) s vars ≡ left (Num n) s vars
  unfolding stripping
  prefix-Num n = λ j. (ap stripping (sym (rolls-Num n)) ∙ para-roll-Term Stripping prefix_step (Term-F.Num n)) j (Num n) s vars

  pub prefix-Lit : (b : Bool) → prefix_of (Lit b) s vars ≡ left (Lit b) s vars
  unfolding stripping
  prefix-Lit b = λ j. (ap stripping (sym (rolls-Lit b)) ∙ para-roll-Term Stripping prefix_step (Term-F.Lit b)) j (Lit b) s vars

  pub prefix-App : (o : Op) (ts : List Term) → prefix_of (App o ts) s vars ≡ operator_stripped o s (map (λ t. (t, stripping t)) ts) (App o ts) s vars
  unfolding stripping
  prefix-App o ts = λ j. (ap stripping (sym (rolls-App o ts)) ∙ para-roll-Term Stripping prefix_step (Term-F.App o ts)) j (App o ts) s vars

  pub prefix-Pred : (p : ℕ) (ts : List Term) → prefix_of (Pred p ts) s vars ≡ left (Pred p ts) s vars
  unfolding stripping
  prefix-Pred p ts = λ j. (ap stripping (sym (rolls-Pred p ts)) ∙ para-roll-Term Stripping prefix_step (Term-F.Pred p ts)) j (Pred p ts) s vars

  pub prefix-Quant : (k : Kind) (sorts : List Sort) (t : Term) → prefix_of (Quant k sorts t) s vars ≡ cond (binds k s) (prefix_of t s (vars ++ sorts)) (left (Quant k sorts t) s vars)
  unfolding stripping
  prefix-Quant k sorts t = λ j. (ap stripping (sym (rolls-Quant k sorts t)) ∙ para-roll-Term Stripping prefix_step (Term-F.Quant k sorts t)) j (Quant k sorts t) s vars

  pub prefix-Call : (k : ℕ) (ts : List Term) → prefix_of (Call k ts) s vars ≡ left (Call k ts) s vars
  unfolding stripping
  prefix-Call k ts = λ j. (ap stripping (sym (rolls-Call k ts)) ∙ para-roll-Term Stripping prefix_step (Term-F.Call k ts)) j (Call k ts) s vars

-- the equations of prefixes
pub ruleset prefix_equations = (prefix-Var, prefix-Num, prefix-Lit, prefix-App, prefix-Pred, prefix-Quant, prefix-Call)
