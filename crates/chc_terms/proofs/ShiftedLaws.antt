-- The equations of `shifted` and `can_shift`, one for each variant.
use Rattle.std.proofs.Common.{◌≡◌, ℕ, ℤ, ◌^◌, List, Bool, true, ap, sym, ◌∙◌}
use Rattle.std.specs.Prelude.{nat_lt}
use Rattle.chc_sorts.specs.declared.sort.Sort.{Sort}
use Rattle.chc_sorts.specs.declared.op.Op.{Op}
use Rattle.chc_terms.specs.declared.term.Kind.{Kind}
use Rattle.chc_terms.specs.declared.term.Term.{Term, Term-F, fold-roll-Term}
use Rattle.chc_terms.specs.declared.term.Term.TheVariants.{Var, Num, Lit, App, Pred, Quant, Call, rolls-Var, rolls-Num, rolls-Lit, rolls-App, rolls-Pred, rolls-Quant, rolls-Call}
use Rattle.chc_terms.specs.Shifted.{moved, shift_step, shifted, shifted_all, can_shift_step, can_shift, can_shift_all}

module _ (from up : ℕ) where
  pub shifted-Var : (i : ℕ) → shifted (Var i) from up ≡ Var (moved from up i)
  shifted-Var i = ap (λ t. shifted t from up) (sym (rolls-Var i)) ∙ fold-roll-Term Term (shift_step from up) (Term-F.Var i)

  pub shifted-Num : (n : ℤ) → shifted (Num n) from up ≡ Num n
  shifted-Num n = ap (λ t. shifted t from up) (sym (rolls-Num n)) ∙ fold-roll-Term Term (shift_step from up) (Term-F.Num n)

  pub shifted-Lit : (b : Bool) → shifted (Lit b) from up ≡ Lit b
  shifted-Lit b = ap (λ t. shifted t from up) (sym (rolls-Lit b)) ∙ fold-roll-Term Term (shift_step from up) (Term-F.Lit b)

  pub shifted-App : (o : Op) (ts : List Term) → shifted (App o ts) from up ≡ App o (shifted_all ts from up)
  shifted-App o ts = ap (λ t. shifted t from up) (sym (rolls-App o ts)) ∙ fold-roll-Term Term (shift_step from up) (Term-F.App o ts)

  pub shifted-Pred : (p : ℕ) (ts : List Term) → shifted (Pred p ts) from up ≡ Pred p (shifted_all ts from up)
  shifted-Pred p ts = ap (λ t. shifted t from up) (sym (rolls-Pred p ts)) ∙ fold-roll-Term Term (shift_step from up) (Term-F.Pred p ts)

  pub shifted-Quant : (k : Kind) (sorts : List Sort) (t : Term) → shifted (Quant k sorts t) from up ≡ Quant k sorts (shifted t from up)
  shifted-Quant k sorts t = ap (λ t. shifted t from up) (sym (rolls-Quant k sorts t)) ∙ fold-roll-Term Term (shift_step from up) (Term-F.Quant k sorts t)

  pub shifted-Call : (k : ℕ) (ts : List Term) → shifted (Call k ts) from up ≡ Call k (shifted_all ts from up)
  shifted-Call k ts = ap (λ t. shifted t from up) (sym (rolls-Call k ts)) ∙ fold-roll-Term Term (shift_step from up) (Term-F.Call k ts)

  pub can_shift-Var : (i : ℕ) → can_shift (Var i) from up ≡ nat_lt (moved from up i) (2 ^ 32)
  can_shift-Var i = ap (λ t. can_shift t from up) (sym (rolls-Var i)) ∙ fold-roll-Term Bool (can_shift_step from up) (Term-F.Var i)

  pub can_shift-Num : (n : ℤ) → can_shift (Num n) from up ≡ true
  can_shift-Num n = ap (λ t. can_shift t from up) (sym (rolls-Num n)) ∙ fold-roll-Term Bool (can_shift_step from up) (Term-F.Num n)

  pub can_shift-Lit : (b : Bool) → can_shift (Lit b) from up ≡ true
  can_shift-Lit b = ap (λ t. can_shift t from up) (sym (rolls-Lit b)) ∙ fold-roll-Term Bool (can_shift_step from up) (Term-F.Lit b)

  pub can_shift-App : (o : Op) (ts : List Term) → can_shift (App o ts) from up ≡ can_shift_all ts from up
  can_shift-App o ts = ap (λ t. can_shift t from up) (sym (rolls-App o ts)) ∙ fold-roll-Term Bool (can_shift_step from up) (Term-F.App o ts)

  pub can_shift-Pred : (p : ℕ) (ts : List Term) → can_shift (Pred p ts) from up ≡ can_shift_all ts from up
  can_shift-Pred p ts = ap (λ t. can_shift t from up) (sym (rolls-Pred p ts)) ∙ fold-roll-Term Bool (can_shift_step from up) (Term-F.Pred p ts)

  pub can_shift-Quant : (k : Kind) (sorts : List Sort) (t : Term) → can_shift (Quant k sorts t) from up ≡ can_shift t from up
  can_shift-Quant k sorts t = ap (λ t. can_shift t from up) (sym (rolls-Quant k sorts t)) ∙ fold-roll-Term Bool (can_shift_step from up) (Term-F.Quant k sorts t)

  pub can_shift-Call : (k : ℕ) (ts : List Term) → can_shift (Call k ts) from up ≡ can_shift_all ts from up
  can_shift-Call k ts = ap (λ t. can_shift t from up) (sym (rolls-Call k ts)) ∙ fold-roll-Term Bool (can_shift_step from up) (Term-F.Call k ts)

-- the equations of shifted and can_shift
pub ruleset equations = (shifted-Var, shifted-Num, shifted-Lit, shifted-App, shifted-Pred, shifted-Quant, shifted-Call, can_shift-Var, can_shift-Num, can_shift-Lit, can_shift-App, can_shift-Pred, can_shift-Quant, can_shift-Call)
