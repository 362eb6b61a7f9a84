-- Induction over terms: one case for each variant, with what holds of the children.
use Rattle.std.proofs.Common.{ℕ, ℤ, List, [], ◌∷◌, map, Bool, sym, subst}
use Rattle.std.specs.List.{AllByRecursion}
use Rattle.chc_sorts.specs.declared.sort.Sort.{Sort}
use Rattle.chc_sorts.specs.declared.op.Op.{Op}
use Rattle.chc_terms.specs.declared.term.Kind.{Kind}
use Rattle.chc_terms.specs.declared.term.Term.{Term, Term-F, roll-Term, map-Term, ind-Term}
use Rattle.chc_terms.specs.declared.term.Term.TheVariants.{Var, Num, Lit, App, Pred, Quant, Call, rolls-Var, rolls-Num, rolls-Lit, rolls-App, rolls-Pred, rolls-Quant, rolls-Call}

-- what is shown of each variant, where P holds of its children
pub record TermCases (P : Term → Type 0) : Type 0 where
  pub of_var : (i : ℕ) → P (Var i)
  pub of_num : (n : ℤ) → P (Num n)
  pub of_lit : (b : Bool) → P (Lit b)
  pub of_app : (o : Op) (ts : List Term) → AllByRecursion P ts → P (App o ts)
  pub of_pred : (p : ℕ) (ts : List Term) → AllByRecursion P ts → P (Pred p ts)
  pub of_quant : (k : Kind) (sorts : List Sort) (t : Term) → P t → P (Quant k sorts t)
  pub of_call : (k : ℕ) (ts : List Term) → AllByRecursion P ts → P (Call k ts)

module _ (P : Term → Type 0) where
  abbrev Shown : Type 0
  Shown = (t : Term) × P t

  all_shown : (ts : List Shown) → AllByRecursion P (map (λ (e : Shown). e.0) ts)
  all_shown [] = tt
  all_shown (t ∷ ts) = (t.1, all_shown ts)

  at_level : TermCases P → (y : Term-F Shown) → P (roll-Term (map-Term Shown Term (λ (e : Shown). e.0) y))
  at_level c (Term-F.Var i) = subst P (sym (rolls-Var i)) (c.of_var i)
  at_level c (Term-F.Num n) = subst P (sym (rolls-Num n)) (c.of_num n)
  at_level c (Term-F.Lit b) = subst P (sym (rolls-Lit b)) (c.of_lit b)
  at_level c (Term-F.App o ts) = subst P (sym (rolls-App o (map (λ (e : Shown). e.0) ts))) (c.of_app o (map (λ (e : Shown). e.0) ts) (all_shown ts))
  at_level c (Term-F.Pred p ts) = subst P (sym (rolls-Pred p (map (λ (e : Shown). e.0) ts))) (c.of_pred p (map (λ (e : Shown). e.0) ts) (all_shown ts))
  at_level c (Term-F.Quant k sorts t) = subst P (sym (rolls-Quant k sorts t.0)) (c.of_quant k sorts t.0 t.1)
  at_level c (Term-F.Call k ts) = subst P (sym (rolls-Call k (map (λ (e : Shown). e.0) ts))) (c.of_call k (map (λ (e : Shown). e.0) ts) (all_shown ts))

  pub term_ind : TermCases P → (t : Term) → P t
  term_ind c = ind-Term P (λ x y e. subst (λ z. P (roll-Term z)) e (at_level c y))
