-- The equations of `numbers_fit`, one for each variant, and the test of a constant array's sort.
use Rattle.std.proofs.Common.{◌≡◌, ◌+◌, ℕ, ℤ, List, map, Bool, true, ◌&&◌, ap, sym, ◌∙◌}
use Rattle.std.specs.Prelude.{nat_lt}
use Rattle.std.specs.List.{list_all}
use Rattle.chc_sorts.specs.declared.sort.Sort.{Sort}
use Rattle.chc_sorts.specs.declared.sort.Sort.TheVariants as sort
use Rattle.chc_sorts.specs.declared.op.Op.{Op}
use Rattle.chc_sorts.specs.Signature.{Signature}
use Rattle.chc_sorts.specs.Sorts.{sort_depth, sort_fits}
use Rattle.chc_sorts.proofs.SameSort.{sort_depth-Array}
use Rattle.chc_values.specs.Ranges.{is_int_in_range}
use Rattle.chc_terms.specs.declared.term.Kind.{Kind}
use Rattle.chc_terms.specs.declared.term.Term.{Term, Term-F, fold-roll-Term}
use Rattle.chc_terms.specs.declared.term.Term.TheVariants.{Var, Num, Lit, App, Pred, Quant, Call, rolls-Var, rolls-Num, rolls-Lit, rolls-App, rolls-Pred, rolls-Quant, rolls-Call}
use Rattle.chc_terms.specs.Numbers.{numbers_fit, numbers_fit_step}
use Rattle.chc_terms.specs.Sorted.{is_declared}
use Rattle.chc_terms.proofs.SortTests.{is_declared-Array}

pub numbers_fit-Var : (i : ℕ) → numbers_fit (Var i) ≡ true
numbers_fit-Var i = ap numbers_fit (sym (rolls-Var i)) ∙ fold-roll-Term Bool numbers_fit_step (Term-F.Var i)

pub numbers_fit-Num : (n : ℤ) → numbers_fit (Num n) ≡ is_int_in_range n
numbers_fit-Num n = ap numbers_fit (sym (rolls-Num n)) ∙ fold-roll-Term Bool numbers_fit_step (Term-F.Num n)

pub numbers_fit-Lit : (b : Bool) → numbers_fit (Lit b) ≡ true
numbers_fit-Lit b = ap numbers_fit (sym (rolls-Lit b)) ∙ fold-roll-Term Bool numbers_fit_step (Term-F.Lit b)

pub numbers_fit-App : (o : Op) (ts : List Term) → numbers_fit (App o ts) ≡ list_all (λ b. b) (map numbers_fit ts)
numbers_fit-App o ts = ap numbers_fit (sym (rolls-App o ts)) ∙ fold-roll-Term Bool numbers_fit_step (Term-F.App o ts)

pub numbers_fit-Pred : (p : ℕ) (ts : List Term) → numbers_fit (Pred p ts) ≡ list_all (λ b. b) (map numbers_fit ts)
numbers_fit-Pred p ts = ap numbers_fit (sym (rolls-Pred p ts)) ∙ fold-roll-Term Bool numbers_fit_step (Term-F.Pred p ts)

pub numbers_fit-Quant : (k : Kind) (sorts : List Sort) (t : Term) → numbers_fit (Quant k sorts t) ≡ numbers_fit t
numbers_fit-Quant k sorts t = ap numbers_fit (sym (rolls-Quant k sorts t)) ∙ fold-roll-Term Bool numbers_fit_step (Term-F.Quant k sorts t)

pub numbers_fit-Call : (k : ℕ) (ts : List Term) → numbers_fit (Call k ts) ≡ list_all (λ b. b) (map numbers_fit ts)
numbers_fit-Call k ts = ap numbers_fit (sym (rolls-Call k ts)) ∙ fold-roll-Term Bool numbers_fit_step (Term-F.Call k ts)

-- the equations of numbers_fit
pub ruleset numbers = (numbers_fit-Var, numbers_fit-Num, numbers_fit-Lit, numbers_fit-App, numbers_fit-Pred, numbers_fit-Quant, numbers_fit-Call)

-- an array sort fits where its element sort is declared and at most 15 deep
pub sort_fits-Array : (sig : Signature) (s : Sort) → sort_fits sig (sort.Array s) ≡ (is_declared sig s && nat_lt (sort_depth s + 1) 17)
sort_fits-Array sig s = ap (λ b. b && nat_lt (sort_depth (sort.Array s)) 17) (is_declared-Array sig s) ∙ ap (λ n. is_declared sig s && nat_lt n 17) (sort_depth-Array s)

-- the test of an array sort
pub ruleset arrays = (sort_fits-Array)
