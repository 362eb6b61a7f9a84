-- The equations of occurrences, one for each variant, and its step over lists.
use Rattle.std.proofs.Common.{◌≡◌, ℕ, ℤ, ◌+◌, List, ◌∷◌, map, cond, Bool, ap, sym, ◌∙◌}
use Rattle.std.specs.Prelude.{nat_eq}
use Rattle.std.proofs.lemmas.List.Sums.{sum_by-cons}
use Rattle.chc_sorts.specs.declared.sort.Sort.{Sort}
use Rattle.chc_sorts.specs.declared.op.Op.{Op}
use Rattle.chc_terms.specs.declared.term.Kind.{Kind}
use Rattle.chc_terms.specs.declared.term.Term.{Term, Term-F, fold-roll-Term}
use Rattle.chc_terms.specs.declared.term.Term.TheVariants.{Var, Num, Lit, App, Pred, Quant, Call, rolls-Var, rolls-Num, rolls-Lit, rolls-App, rolls-Pred, rolls-Quant, rolls-Call}
use Rattle.chc_terms.specs.Counts.{occurrences_step, occurrences, occurrences_all}

module _ (var : ℕ) where
  pub occurrences-Var : (i : ℕ) → occurrences var (Var i) ≡ cond (nat_eq i var) 1 0
  occurrences-Var i = ap (occurrences var) (sym (rolls-Var i)) ∙ fold-roll-Term ℕ (occurrences_step var) (Term-F.Var i)

  pub occurrences-Num : (n : ℤ) → occurrences var (Num n) ≡ 0
  occurrences-Num n = ap (occurrences var) (sym (rolls-Num n)) ∙ fold-roll-Term ℕ (occurrences_step var) (Term-F.Num n)

  pub occurrences-Lit : (b : Bool) → occurrences var (Lit b) ≡ 0
  occurrences-Lit b = ap (occurrences var) (sym (rolls-Lit b)) ∙ fold-roll-Term ℕ (occurrences_step var) (Term-F.Lit b)

  pub occurrences-App : (o : Op) (ts : List Term) → occurrences var (App o ts) ≡ occurrences_all var ts
  occurrences-App o ts = ap (occurrences var) (sym (rolls-App o ts)) ∙ fold-roll-Term ℕ (occurrences_step var) (Term-F.App o ts)

  pub occurrences-Pred : (p : ℕ) (ts : List Term) → occurrences var (Pred p ts) ≡ occurrences_all var ts
  occurrences-Pred p ts = ap (occurrences var) (sym (rolls-Pred p ts)) ∙ fold-roll-Term ℕ (occurrences_step var) (Term-F.Pred p ts)

  pub occurrences-Quant : (k : Kind) (sorts : List Sort) (t : Term) → occurrences var (Quant k sorts t) ≡ occurrences var t
  occurrences-Quant k sorts t = ap (occurrences var) (sym (rolls-Quant k sorts t)) ∙ fold-roll-Term ℕ (occurrences_step var) (Term-F.Quant k sorts t)

  pub occurrences-Call : (k : ℕ) (ts : List Term) → occurrences var (Call k ts) ≡ occurrences_all var ts
  occurrences-Call k ts = ap (occurrences var) (sym (rolls-Call k ts)) ∙ fold-roll-Term ℕ (occurrences_step var) (Term-F.Call k ts)

  pub occurrences_all-cons : (t : Term) (ts : List Term) → occurrences_all var (t ∷ ts) ≡ occurrences var t + occurrences_all var ts
  occurrences_all-cons t ts = sum_by-cons (λ n. n) (occurrences var t) (map (occurrences var) ts)

-- the equations of occurrences
pub ruleset equations = (occurrences-Var, occurrences-Num, occurrences-Lit, occurrences-App, occurrences-Pred, occurrences-Quant, occurrences-Call, occurrences_all-cons)
