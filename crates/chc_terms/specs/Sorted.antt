-- The sort of a term, where it is well sorted.
use Rattle.std.specs.Prelude.{ℕ, Bool, true, false, ◌&&◌, cond, List, [], ◌∷◌, ◌++◌, map, Option, Some, None, slice_get, is_some}
use Rattle.std.specs.List.{list_all}
use Rattle.std.specs.Option.{option_and_then, option_map}
use Rattle.chc_sorts.specs.declared.sort.Sort.{Sort, Sort-F, fold-Sort, out-Sort}
use Rattle.chc_sorts.specs.declared.sort.Sort.TheVariants as sort
use Rattle.chc_sorts.specs.declared.op.Op.{Op}
use Rattle.chc_sorts.specs.declared.op.Op.TheVariants as op
use Rattle.chc_sorts.specs.declared.data.Data.{Data}
use Rattle.chc_sorts.specs.declared.data.Ctor.{Ctor}
use Rattle.chc_sorts.specs.declared.data.Field.{Field}
use Rattle.chc_sorts.specs.Signature.{Signature}
use Rattle.chc_sorts.specs.Sorts.{same_sort, same_sorts, is_declared_step, sort_fits}
use Rattle.chc_terms.specs.declared.fun_sort.FunSort.{FunSort}
use Rattle.chc_terms.specs.declared.term.Term.{Term, Term-F, fold-Term}

-- the element sort of an array sort
abbrev pub element_at : Sort-F Sort → Option Sort
element_at Sort-F.Bool = None
element_at Sort-F.Int = None
element_at (Sort-F.Data d) = None
element_at (Sort-F.Array element) = Some element

abbrev pub element_of : Sort → Option Sort
element_of s = element_at (out-Sort s)

-- the sorts of the fields of constructor c of the datatype d
abbrev pub fields_of : Signature → ℕ → ℕ → Option (List Sort)
fields_of sig d c = option_and_then (λ (t : Data). option_map (λ (k : Ctor). map (λ (f : Field). f.sort) k.fields) (slice_get t.ctors c)) (slice_get sig.datatypes d)

-- whether the sort names datatypes of the signature alone
abbrev pub is_declared : Signature → Sort → Bool
is_declared sig = fold-Sort Bool (is_declared_step sig)

-- whether all of the sorts do
abbrev pub are_declared : Signature → List Sort → Bool
are_declared sig sorts = list_all (is_declared sig) sorts

-- the sort, where the test holds
abbrev pub when : Bool → Sort → Option Sort
when test s = cond test (Some s) None

-- whether these are at least two, all of them Bool
abbrev pub are_truths : List Sort → Bool
are_truths [] = false
are_truths (a ∷ []) = false
are_truths (a ∷ b ∷ more) = list_all (same_sort sort.Bool) (a ∷ b ∷ more)

-- the sort of two arguments of one sort under an equation
abbrev pub equation_sort : List Sort → Option Sort
equation_sort [] = None
equation_sort (a ∷ []) = None
equation_sort (a ∷ b ∷ []) = when (same_sort a b) sort.Bool
equation_sort (a ∷ b ∷ c ∷ more) = None

-- the sort of a choice between two terms of one sort
abbrev pub choice_sort : List Sort → Option Sort
choice_sort [] = None
choice_sort (c ∷ []) = None
choice_sort (c ∷ a ∷ []) = None
choice_sort (c ∷ a ∷ b ∷ []) = when (same_sort c sort.Bool && same_sort a b) a
choice_sort (c ∷ a ∷ b ∷ d ∷ more) = None

-- the sort of an array read at an index
abbrev pub read_sort : List Sort → Option Sort
read_sort [] = None
read_sort (a ∷ []) = None
read_sort (a ∷ i ∷ []) = option_and_then (λ e. when (same_sort i sort.Int) e) (element_of a)
read_sort (a ∷ i ∷ c ∷ more) = None

-- the sort of an array written at an index
abbrev pub write_sort : List Sort → Option Sort
write_sort [] = None
write_sort (a ∷ []) = None
write_sort (a ∷ i ∷ []) = None
write_sort (a ∷ i ∷ v ∷ []) = option_and_then (λ e. when (same_sort i sort.Int && same_sort v e) a) (element_of a)
write_sort (a ∷ i ∷ v ∷ d ∷ more) = None

-- the sort of an operator on arguments of these sorts, where it takes them
abbrev pub op_sort : Signature → Op → List Sort → Option Sort
op_sort sig op.Not sorts = when (same_sorts sorts (sort.Bool ∷ [])) sort.Bool
op_sort sig op.And sorts = when (are_truths sorts) sort.Bool
op_sort sig op.Or sorts = when (are_truths sorts) sort.Bool
op_sort sig op.Eq sorts = equation_sort sorts
op_sort sig op.Ite sorts = choice_sort sorts
op_sort sig op.Add sorts = when (same_sorts sorts (sort.Int ∷ sort.Int ∷ [])) sort.Int
op_sort sig op.Sub sorts = when (same_sorts sorts (sort.Int ∷ sort.Int ∷ [])) sort.Int
op_sort sig op.Mul sorts = when (same_sorts sorts (sort.Int ∷ sort.Int ∷ [])) sort.Int
op_sort sig op.Div sorts = when (same_sorts sorts (sort.Int ∷ sort.Int ∷ [])) sort.Int
op_sort sig op.Mod sorts = when (same_sorts sorts (sort.Int ∷ sort.Int ∷ [])) sort.Int
op_sort sig op.Le sorts = when (same_sorts sorts (sort.Int ∷ sort.Int ∷ [])) sort.Bool
op_sort sig op.Lt sorts = when (same_sorts sorts (sort.Int ∷ sort.Int ∷ [])) sort.Bool
op_sort sig op.Select sorts = read_sort sorts
op_sort sig op.Store sorts = write_sort sorts
op_sort sig (op.Const element) sorts = when (is_declared sig element && same_sorts sorts (element ∷ [])) (sort.Array element)
op_sort sig (op.Make d c) sorts = option_and_then (λ fields. when (same_sorts sorts fields) (sort.Data d)) (fields_of sig d c)
op_sort sig (op.Get d c i) sorts = option_and_then (λ fields. option_and_then (λ s. when (same_sorts sorts (sort.Data d ∷ [])) s) (slice_get fields i)) (fields_of sig d c)
op_sort sig (op.Is d c) sorts = when (is_some (fields_of sig d c) && same_sorts sorts (sort.Data d ∷ [])) sort.Bool

-- what terms are over: datatypes, the sorts of the predicates' positions, and those of the definitions
pub record Context : Type 0 where
  pub sig : Signature
  pub preds : List (List Sort)
  pub defs : List FunSort

-- the sort of what takes arguments of these sorts, where it is there
abbrev pub result_at : List Sort → Option FunSort → Option Sort
result_at sorts None = None
result_at sorts (Some f) = when (same_sorts sorts f.params) f.result

abbrev pub truth_at : List Sort → Option (List Sort) → Option Sort
truth_at sorts None = None
truth_at sorts (Some params) = when (same_sorts sorts params) sort.Bool

-- the sort of a quantifier over variables of these sorts, of which there is at least one, on a body of this sort
abbrev pub quantifier_sort : List Sort → Option Sort → Option Sort
quantifier_sort [] body = None
quantifier_sort (s ∷ sorts) None = None
quantifier_sort (s ∷ sorts) (Some body) = when (same_sort body sort.Bool) sort.Bool

-- the same, where the sorts of the variables name datatypes of the signature alone
abbrev pub declared_quantifier_sort : Signature → List Sort → Option Sort → Option Sort
declared_quantifier_sort sig sorts body = cond (are_declared sig sorts) (quantifier_sort sorts body) None

-- the list of what all of them give, if all do
abbrev pub all_some : {X : Type 0} → List (Option X) → Option (List X)
all_some [] = Some []
all_some (o ∷ os) = option_and_then (λ x. option_map (λ xs. x ∷ xs) (all_some os)) o

-- the sorts of terms under variables of these sorts
abbrev pub sorts_under : List Sort → List (List Sort → Option Sort) → Option (List Sort)
sorts_under vars terms = all_some (map (λ term. term vars) terms)

abbrev pub sort_step : Context → Term-F (List Sort → Option Sort) → List Sort → Option Sort
sort_step cx (Term-F.Var i) vars = slice_get vars i
sort_step cx (Term-F.Num n) vars = Some sort.Int
sort_step cx (Term-F.Lit b) vars = Some sort.Bool
sort_step cx (Term-F.App o terms) vars = option_and_then (op_sort cx.sig o) (sorts_under vars terms)
sort_step cx (Term-F.Pred p terms) vars = option_and_then (λ sorts. truth_at sorts (slice_get cx.preds p)) (sorts_under vars terms)
sort_step cx (Term-F.Quant k sorts body) vars = declared_quantifier_sort cx.sig sorts (body (vars ++ sorts))
sort_step cx (Term-F.Call k terms) vars = option_and_then (λ sorts. result_at sorts (slice_get cx.defs k)) (sorts_under vars terms)

-- the sort of a term under variables of these sorts, where it is well sorted
unfoldable pub sort_of : Context → Term → List Sort → Option Sort
sort_of cx = fold-Term (List Sort → Option Sort) (sort_step cx)

-- the sorts of terms, where all are well sorted
abbrev pub sorts_of : Context → List Term → List Sort → Option (List Sort)
sorts_of cx terms vars = sorts_under vars (map (sort_of cx) terms)

abbrev pub is_plain_step : Term-F Bool → Bool
is_plain_step (Term-F.Var i) = true
is_plain_step (Term-F.Num n) = true
is_plain_step (Term-F.Lit b) = true
is_plain_step (Term-F.App o plain) = list_all (λ b. b) plain
is_plain_step (Term-F.Pred p plain) = false
is_plain_step (Term-F.Quant k sorts plain) = false
is_plain_step (Term-F.Call k plain) = false

-- whether the term has no quantifier, no predicate and no call in it
unfoldable pub is_plain : Term → Bool
is_plain = fold-Term Bool is_plain_step

abbrev pub is_unquantified_step : Term-F Bool → Bool
is_unquantified_step (Term-F.Var i) = true
is_unquantified_step (Term-F.Num n) = true
is_unquantified_step (Term-F.Lit b) = true
is_unquantified_step (Term-F.App o parts) = list_all (λ b. b) parts
is_unquantified_step (Term-F.Pred p parts) = list_all (λ b. b) parts
is_unquantified_step (Term-F.Quant k sorts part) = false
is_unquantified_step (Term-F.Call k parts) = list_all (λ b. b) parts

-- whether the term has no quantifier in it
unfoldable pub is_unquantified : Term → Bool
is_unquantified = fold-Term Bool is_unquantified_step

-- whether the sort that the operator gives by itself, if any, fits: that of a constant array over its element sort
abbrev pub op_fits : Signature → Op → Bool
op_fits sig (op.Const element) = sort_fits sig (sort.Array element)
op_fits sig o = true

abbrev pub sorts_fit_step : Signature → Term-F Bool → Bool
sorts_fit_step sig (Term-F.Var i) = true
sorts_fit_step sig (Term-F.Num n) = true
sorts_fit_step sig (Term-F.Lit b) = true
sorts_fit_step sig (Term-F.App o fits) = op_fits sig o && list_all (λ b. b) fits
sorts_fit_step sig (Term-F.Pred p fits) = list_all (λ b. b) fits
sorts_fit_step sig (Term-F.Quant k sorts fits) = list_all (sort_fits sig) sorts && fits
sorts_fit_step sig (Term-F.Call k fits) = list_all (λ b. b) fits

-- whether every sort that the term writes out fits, a constant array's own too
abbrev pub sorts_fit : Signature → Term → Bool
sorts_fit sig = fold-Term Bool (sorts_fit_step sig)
