-- The equations of size and depth, one for each variant, and their steps over lists.
use Rattle.std.proofs.Common.{◌≡◌, ℕ, ℤ, ◌+◌, List, ◌∷◌, map, Bool, ap, sym, ◌∙◌}
use Rattle.std.proofs.lemmas.List.Sums.{sum_by-cons}
use Rattle.chc_sorts.specs.declared.sort.Sort.{Sort}
use Rattle.chc_sorts.specs.declared.op.Op.{Op}
use Rattle.chc_terms.specs.declared.term.Kind.{Kind}
use Rattle.chc_terms.specs.declared.term.Term.{Term, Term-F, fold-roll-Term}
use Rattle.chc_terms.specs.declared.term.Term.TheVariants.{Var, Num, Lit, App, Pred, Quant, Call, rolls-Var, rolls-Num, rolls-Lit, rolls-App, rolls-Pred, rolls-Quant, rolls-Call}
use Rattle.chc_terms.specs.Counts.{size_step, size, size_all, depth_step, depth, depth_all}

pub size-Var : (i : ℕ) → size (Var i) ≡ 1
size-Var i = ap size (sym (rolls-Var i)) ∙ fold-roll-Term ℕ size_step (Term-F.Var i)

pub size-Num : (n : ℤ) → size (Num n) ≡ 1
size-Num n = ap size (sym (rolls-Num n)) ∙ fold-roll-Term ℕ size_step (Term-F.Num n)

pub size-Lit : (b : Bool) → size (Lit b) ≡ 1
size-Lit b = ap size (sym (rolls-Lit b)) ∙ fold-roll-Term ℕ size_step (Term-F.Lit b)

pub size-App : (o : Op) (ts : List Term) → size (App o ts) ≡ size_all ts + 1
size-App o ts = ap size (sym (rolls-App o ts)) ∙ fold-roll-Term ℕ size_step (Term-F.App o ts)

pub size-Pred : (p : ℕ) (ts : List Term) → size (Pred p ts) ≡ size_all ts + 1
size-Pred p ts = ap size (sym (rolls-Pred p ts)) ∙ fold-roll-Term ℕ size_step (Term-F.Pred p ts)

pub size-Quant : (k : Kind) (sorts : List Sort) (t : Term) → size (Quant k sorts t) ≡ size t + 1
size-Quant k sorts t = ap size (sym (rolls-Quant k sorts t)) ∙ fold-roll-Term ℕ size_step (Term-F.Quant k sorts t)

pub size-Call : (k : ℕ) (ts : List Term) → size (Call k ts) ≡ size_all ts + 1
size-Call k ts = ap size (sym (rolls-Call k ts)) ∙ fold-roll-Term ℕ size_step (Term-F.Call k ts)

pub size_all-cons : (t : Term) (ts : List Term) → size_all (t ∷ ts) ≡ size t + size_all ts
size_all-cons t ts = sum_by-cons (λ n. n) (size t) (map size ts)

pub depth-Var : (i : ℕ) → depth (Var i) ≡ 1
depth-Var i = ap depth (sym (rolls-Var i)) ∙ fold-roll-Term ℕ depth_step (Term-F.Var i)

pub depth-Num : (n : ℤ) → depth (Num n) ≡ 1
depth-Num n = ap depth (sym (rolls-Num n)) ∙ fold-roll-Term ℕ depth_step (Term-F.Num n)

pub depth-Lit : (b : Bool) → depth (Lit b) ≡ 1
depth-Lit b = ap depth (sym (rolls-Lit b)) ∙ fold-roll-Term ℕ depth_step (Term-F.Lit b)

pub depth-App : (o : Op) (ts : List Term) → depth (App o ts) ≡ depth_all ts + 1
depth-App o ts = ap depth (sym (rolls-App o ts)) ∙ fold-roll-Term ℕ depth_step (Term-F.App o ts)

pub depth-Pred : (p : ℕ) (ts : List Term) → depth (Pred p ts) ≡ depth_all ts + 1
depth-Pred p ts = ap depth (sym (rolls-Pred p ts)) ∙ fold-roll-Term ℕ depth_step (Term-F.Pred p ts)

pub depth-Quant : (k : Kind) (sorts : List Sort) (t : Term) → depth (Quant k sorts t) ≡ depth t + 1
depth-Quant k sorts t = ap depth (sym (rolls-Quant k sorts t)) ∙ fold-roll-Term ℕ depth_step (Term-F.Quant k sorts t)

pub depth-Call : (k : ℕ) (ts : List Term) → depth (Call k ts) ≡ depth_all ts + 1
depth-Call k ts = ap depth (sym (rolls-Call k ts)) ∙ fold-roll-Term ℕ depth_step (Term-F.Call k ts)

-- the equations of size
pub ruleset sizes = (size-Var, size-Num, size-Lit, size-App, size-Pred, size-Quant, size-Call, size_all-cons)

-- the equations of depth
pub ruleset depths = (depth-Var, depth-Num, depth-Lit, depth-App, depth-Pred, depth-Quant, depth-Call)
