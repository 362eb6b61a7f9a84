-- The equations of `sort_of`, `is_plain`, `is_unquantified` and `sorts_fit`, one for each variant, and their steps over lists.
use Rattle.std.proofs.Common.{◌≡◌, ℕ, ℤ, List, ◌∷◌, ◌++◌, map, Bool, true, false, ◌&&◌, Option, Some, slice_get, option_map, option_and_then, refl, ap, sym, ◌∙◌}
use Rattle.std.specs.List.{list_all}
use Rattle.chc_sorts.specs.declared.sort.Sort.{Sort}
use Rattle.chc_sorts.specs.declared.sort.Sort.TheVariants as sort
use Rattle.chc_sorts.specs.declared.op.Op.{Op}
use Rattle.chc_sorts.specs.Signature.{Signature}
use Rattle.chc_terms.specs.declared.term.Kind.{Kind}
use Rattle.chc_terms.specs.declared.term.Term.{Term, Term-F, fold-roll-Term}
use Rattle.chc_terms.specs.declared.term.Term.TheVariants.{Var, Num, Lit, App, Pred, Quant, Call, rolls-Var, rolls-Num, rolls-Lit, rolls-App, rolls-Pred, rolls-Quant, rolls-Call}
use Rattle.chc_sorts.specs.Sorts.{sort_fits}
use Rattle.chc_terms.specs.Sorted.{Context, sort_of, sorts_of, sort_step, op_sort, truth_at, result_at, declared_quantifier_sort, is_plain, is_plain_step, is_unquantified, is_unquantified_step, sorts_fit, sorts_fit_step, op_fits}

module _ (cx : Context) where
  pub sort_of-Var : (i : ℕ) (vars : List Sort) → sort_of cx (Var i) vars ≡ slice_get vars i
  unfolding sort_of
  sort_of-Var i vars = λ j. (ap (sort_of cx) (sym (rolls-Var i)) ∙ fold-roll-Term (List Sort → Option Sort) (sort_step cx) (Term-F.Var i)) j vars

  pub sort_of-Num : (n : ℤ) (vars : List Sort) → sort_of cx (Num n) vars ≡ Some sort.Int
  unfolding sort_of
  sort_of-Num n vars = λ j. (ap (sort_of cx) (sym (rolls-Num n)) ∙ fold-roll-Term (List Sort → Option Sort) (sort_step cx) (Term-F.Num n)) j vars

  pub sort_of-Lit : (b : Bool) (vars : List Sort) → sort_of cx (Lit b) vars ≡ Some sort.Bool
  unfolding sort_of
  sort_of-Lit b vars = λ j. (ap (sort_of cx) (sym (rolls-Lit b)) ∙ fold-roll-Term (List Sort → Option Sort) (sort_step cx) (Term-F.Lit b)) j vars

  pub sort_of-App : (o : Op) (ts : List Term) (vars : List Sort) → sort_of cx (App o ts) vars ≡ option_and_then (op_sort cx.sig o) (sorts_of cx ts vars)
  unfolding sort_of
  sort_of-App o ts vars = λ j. (ap (sort_of cx) (sym (rolls-App o ts)) ∙ fold-roll-Term (List Sort → Option Sort) (sort_step cx) (Term-F.App o ts)) j vars

  pub sort_of-Pred : (p : ℕ) (ts : List Term) (vars : List Sort)
      → sort_of cx (Pred p ts) vars ≡ option_and_then (λ sorts. truth_at sorts (slice_get cx.preds p)) (sorts_of cx ts vars)
  unfolding sort_of
  sort_of-Pred p ts vars = λ j. (ap (sort_of cx) (sym (rolls-Pred p ts)) ∙ fold-roll-Term (List Sort → Option Sort) (sort_step cx) (Term-F.Pred p ts)) j vars

  pub sort_of-Quant : (k : Kind) (sorts : List Sort) (t : Term) (vars : List Sort) → sort_of cx (Quant k sorts t) vars ≡ declared_quantifier_sort cx.sig sorts (sort_of cx t (vars ++ sorts))
  unfolding sort_of
  sort_of-Quant k sorts t vars = λ j. (ap (sort_of cx) (sym (rolls-Quant k sorts t)) ∙ fold-roll-Term (List Sort → Option Sort) (sort_step cx) (Term-F.Quant k sorts t)) j vars

  pub sort_of-Call : (k : ℕ) (ts : List Term) (vars : List Sort)
      → sort_of cx (Call k ts) vars ≡ option_and_then (λ sorts. result_at sorts (slice_get cx.defs k)) (sorts_of cx ts vars)
  unfolding sort_of
  sort_of-Call k ts vars = λ j. (ap (sort_of cx) (sym (rolls-Call k ts)) ∙ fold-roll-Term (List Sort → Option Sort) (sort_step cx) (Term-F.Call k ts)) j vars

  pub sorts_of-cons : (t : Term) (ts : List Term) (vars : List Sort)
      → sorts_of cx (t ∷ ts) vars ≡ option_and_then (λ s. option_map (λ ss. s ∷ ss) (sorts_of cx ts vars)) (sort_of cx t vars)
  sorts_of-cons t ts vars = refl

-- the equations of sort_of
pub ruleset sorts = (sort_of-Var, sort_of-Num, sort_of-Lit, sort_of-App, sort_of-Pred, sort_of-Quant, sort_of-Call, sorts_of-cons)

pub is_plain-Var : (i : ℕ) → is_plain (Var i) ≡ true
unfolding is_plain
is_plain-Var i = ap is_plain (sym (rolls-Var i)) ∙ fold-roll-Term Bool is_plain_step (Term-F.Var i)

pub is_plain-Num : (n : ℤ) → is_plain (Num n) ≡ true
unfolding is_plain
is_plain-Num n = ap is_plain (sym (rolls-Num n)) ∙ fold-roll-Term Bool is_plain_step (Term-F.Num n)

pub is_plain-Lit : (b : Bool) → is_plain (Lit b) ≡ true
unfolding is_plain
is_plain-Lit b = ap is_plain (sym (rolls-Lit b)) ∙ fold-roll-Term Bool is_plain_step (Term-F.Lit b)

pub is_plain-App : (o : Op) (ts : List Term) → is_plain (App o ts) ≡ list_all (λ b. b) (map is_plain ts)
unfolding is_plain
is_plain-App o ts = ap is_plain (sym (rolls-App o ts)) ∙ fold-roll-Term Bool is_plain_step (Term-F.App o ts)

pub is_plain-Pred : (p : ℕ) (ts : List Term) → is_plain (Pred p ts) ≡ false
unfolding is_plain
is_plain-Pred p ts = ap is_plain (sym (rolls-Pred p ts)) ∙ fold-roll-Term Bool is_plain_step (Term-F.Pred p ts)

pub is_plain-Quant : (k : Kind) (sorts : List Sort) (t : Term) → is_plain (Quant k sorts t) ≡ false
unfolding is_plain
is_plain-Quant k sorts t = ap is_plain (sym (rolls-Quant k sorts t)) ∙ fold-roll-Term Bool is_plain_step (Term-F.Quant k sorts t)

pub is_plain-Call : (k : ℕ) (ts : List Term) → is_plain (Call k ts) ≡ false
unfolding is_plain
is_plain-Call k ts = ap is_plain (sym (rolls-Call k ts)) ∙ fold-roll-Term Bool is_plain_step (Term-F.Call k ts)

-- the equations of is_plain
pub ruleset plains = (is_plain-Var, is_plain-Num, is_plain-Lit, is_plain-App, is_plain-Pred, is_plain-Quant, is_plain-Call)

pub is_unquantified-Var : (i : ℕ) → is_unquantified (Var i) ≡ true
unfolding is_unquantified
is_unquantified-Var i = ap is_unquantified (sym (rolls-Var i)) ∙ fold-roll-Term Bool is_unquantified_step (Term-F.Var i)

pub is_unquantified-Num : (n : ℤ) → is_unquantified (Num n) ≡ true
unfolding is_unquantified
is_unquantified-Num n = ap is_unquantified (sym (rolls-Num n)) ∙ fold-roll-Term Bool is_unquantified_step (Term-F.Num n)

pub is_unquantified-Lit : (b : Bool) → is_unquantified (Lit b) ≡ true
unfolding is_unquantified
is_unquantified-Lit b = ap is_unquantified (sym (rolls-Lit b)) ∙ fold-roll-Term Bool is_unquantified_step (Term-F.Lit b)

pub is_unquantified-App : (o : Op) (ts : List Term) → is_unquantified (App o ts) ≡ list_all (λ b. b) (map is_unquantified ts)
unfolding is_unquantified
is_unquantified-App o ts = ap is_unquantified (sym (rolls-App o ts)) ∙ fold-roll-Term Bool is_unquantified_step (Term-F.App o ts)

pub is_unquantified-Pred : (p : ℕ) (ts : List Term) → is_unquantified (Pred p ts) ≡ list_all (λ b. b) (map is_unquantified ts)
unfolding is_unquantified
is_unquantified-Pred p ts = ap is_unquantified (sym (rolls-Pred p ts)) ∙ fold-roll-Term Bool is_unquantified_step (Term-F.Pred p ts)

pub is_unquantified-Quant : (k : Kind) (sorts : List Sort) (t : Term) → is_unquantified (Quant k sorts t) ≡ false
unfolding is_unquantified
is_unquantified-Quant k sorts t = ap is_unquantified (sym (rolls-Quant k sorts t)) ∙ fold-roll-Term Bool is_unquantified_step (Term-F.Quant k sorts t)

pub is_unquantified-Call : (k : ℕ) (ts : List Term) → is_unquantified (Call k ts) ≡ list_all (λ b. b) (map is_unquantified ts)
unfolding is_unquantified
is_unquantified-Call k ts = ap is_unquantified (sym (rolls-Call k ts)) ∙ fold-roll-Term Bool is_unquantified_step (Term-F.Call k ts)

-- the equations of is_unquantified
pub ruleset unquantifieds = (is_unquantified-Var, is_unquantified-Num, is_unquantified-Lit, is_unquantified-App, is_unquantified-Pred, is_unquantified-Quant, is_unquantified-Call)

module _ (sig : Signature) where
  pub sorts_fit-Var : (i : ℕ) → sorts_fit sig (Var i) ≡ true
  sorts_fit-Var i = ap (sorts_fit sig) (sym (rolls-Var i)) ∙ fold-roll-Term Bool (sorts_fit_step sig) (Term-F.Var i)

  pub sorts_fit-Num : (n : ℤ) → sorts_fit sig (Num n) ≡ true
  sorts_fit-Num n = ap (sorts_fit sig) (sym (rolls-Num n)) ∙ fold-roll-Term Bool (sorts_fit_step sig) (Term-F.Num n)

  pub sorts_fit-Lit : (b : Bool) → sorts_fit sig (Lit b) ≡ true
  sorts_fit-Lit b = ap (sorts_fit sig) (sym (rolls-Lit b)) ∙ fold-roll-Term Bool (sorts_fit_step sig) (Term-F.Lit b)

  pub sorts_fit-App : (o : Op) (ts : List Term) → sorts_fit sig (App o ts) ≡ (op_fits sig o && list_all (λ b. b) (map (sorts_fit sig) ts))
  sorts_fit-App o ts = ap (sorts_fit sig) (sym (rolls-App o ts)) ∙ fold-roll-Term Bool (sorts_fit_step sig) (Term-F.App o ts)

  pub sorts_fit-Pred : (p : ℕ) (ts : List Term) → sorts_fit sig (Pred p ts) ≡ list_all (λ b. b) (map (sorts_fit sig) ts)
  sorts_fit-Pred p ts = ap (sorts_fit sig) (sym (rolls-Pred p ts)) ∙ fold-roll-Term Bool (sorts_fit_step sig) (Term-F.Pred p ts)

  pub sorts_fit-Quant : (k : Kind) (sorts : List Sort) (t : Term) → sorts_fit sig (Quant k sorts t) ≡ (list_all (sort_fits sig) sorts && sorts_fit sig t)
  sorts_fit-Quant k sorts t = ap (sorts_fit sig) (sym (rolls-Quant k sorts t)) ∙ fold-roll-Term Bool (sorts_fit_step sig) (Term-F.Quant k sorts t)

  pub sorts_fit-Call : (k : ℕ) (ts : List Term) → sorts_fit sig (Call k ts) ≡ list_all (λ b. b) (map (sorts_fit sig) ts)
  sorts_fit-Call k ts = ap (sorts_fit sig) (sym (rolls-Call k ts)) ∙ fold-roll-Term Bool (sorts_fit_step sig) (Term-F.Call k ts)

-- the equations of sorts_fit
pub ruleset fits = (sorts_fit-Var, sorts_fit-Num, sorts_fit-Lit, sorts_fit-App, sorts_fit-Pred, sorts_fit-Quant, sorts_fit-Call)
