-- Charge, width and the limits of clauses and states.
use Rattle.std.specs.Prelude.{ℕ, ◌+◌, Bool, false, not, ◌||◌, cond, is_none, nat_eq, nat_lt, List, [], ◌∷◌, ◌++◌, length, filter, sum_by, count_by, Option, Some, None}
use Rattle.std.specs.List.{list_any}
use Rattle.chc_sorts.specs.declared.limit.Limit.{Limit}
use Rattle.chc_sorts.specs.declared.limit.Limit.TheVariants as limit
use Rattle.chc_terms.specs.declared.term.Term.{Term, Term-F, out-Term}
use Rattle.chc_terms.specs.Counts.{size, size_all, depth_all}
use Rattle.chc_state.specs.declared.clause.Atom.{Atom}
use Rattle.chc_state.specs.declared.clause.Clause.{Clause}
use Rattle.chc_state.specs.declared.clause.PredDecl.{PredDecl}

-- the variable that the term is, if it is one
abbrev pub variable_of_level : Term-F Term → Option ℕ
variable_of_level (Term-F.Var i) = Some i
variable_of_level (Term-F.Num n) = None
variable_of_level (Term-F.Lit b) = None
variable_of_level (Term-F.App o ts) = None
variable_of_level (Term-F.Pred p ts) = None
variable_of_level (Term-F.Quant k sorts t) = None
variable_of_level (Term-F.Call k ts) = None

abbrev pub variable_of : Term → Option ℕ
variable_of t = variable_of_level (out-Term t)

-- whether that is the variable i
abbrev pub is_variable : ℕ → Option ℕ → Bool
is_variable i None = false
is_variable i (Some j) = nat_eq i j

-- whether that is a variable which none of the earlier terms is
abbrev pub is_fresh : List Term → Option ℕ → Bool
is_fresh earlier None = false
is_fresh earlier (Some i) = not (list_any (λ t. is_variable i (variable_of t)) earlier)

-- the arguments of a body atom that aren't bare: those that are no variable
abbrev pub filled_of_body : List Term → List Term
filled_of_body = filter (λ t. is_none (variable_of t))

-- the arguments of a head that aren't bare: those that are no variable, and repeated variables
abbrev pub filled_after : List Term → List Term → List Term
filled_after earlier [] = []
filled_after earlier (t ∷ ts) = cond (is_fresh earlier (variable_of t)) (filled_after (earlier ++ t ∷ []) ts) (t ∷ filled_after (earlier ++ t ∷ []) ts)

abbrev pub args_of_head : Option Atom → List Term
args_of_head None = []
args_of_head (Some a) = a.args

abbrev pub filled_of_head : Option Atom → List Term
filled_of_head head = filled_after [] (args_of_head head)

-- a bare argument has the charge 1, another one 3 plus its size; an atom has 1 plus its arguments'
-- charges, and the missing head of a query has 1
abbrev pub charge_of_args : List Term → List Term → ℕ
charge_of_args args filled = 1 + length args + sum_by (λ t. 2 + size t) filled

abbrev pub charge : Clause → ℕ
charge c =
    size_all c.conj
    + sum_by (λ (a : Atom). charge_of_args a.args (filled_of_body a.args)) c.body
    + charge_of_args (args_of_head c.head) (filled_of_head c.head)

-- the variables and the arguments that aren't bare
abbrev pub width : Clause → ℕ
width c = length c.vars + sum_by (λ (a : Atom). length (filled_of_body a.args)) c.body + length (filled_of_head c.head)

-- a conjunct is at most 900 deep, and an argument at most 899; bare arguments always are, with depth 1
abbrev pub is_too_deep : Clause → Bool
is_too_deep c =
    nat_lt 900 (depth_all c.conj)
    || list_any (λ (a : Atom). nat_lt 899 (depth_all a.args)) c.body
    || nat_lt 899 (depth_all (args_of_head c.head))

abbrev pub is_query : Clause → Bool
is_query c = is_none c.head

-- whether there is exactly one query
abbrev pub has_one_query : List Clause → Bool
has_one_query cs = nat_eq (count_by is_query cs) 1

-- what is kept free for the query that will be made where there isn't exactly one
abbrev pub reserve : ℕ → List Clause → ℕ
reserve n cs = cond (has_one_query cs) 0 n

abbrev pub state_charge : List Clause → ℕ
state_charge cs = sum_by charge cs + reserve 2 cs

abbrev pub live_count : List PredDecl → ℕ
live_count = count_by (λ (d : PredDecl). d.live)

-- the first limit of the list whose test says that it is passed
abbrev pub first_true : List (Bool × Limit) → Option Limit
first_true [] = None
first_true (row ∷ rows) = cond row.0 (Some row.1) (first_true rows)

-- the first limit that these predicates and clauses pass
abbrev pub first_passed : List PredDecl → List Clause → Option Limit
first_passed preds cs = first_true (
    (list_any is_too_deep cs, limit.L4)
    ∷ (list_any (λ c. nat_lt 262144 (charge c)) cs, limit.L5)
    ∷ (nat_lt 4194304 (state_charge cs), limit.L6)
    ∷ (nat_lt 65536 (live_count preds + reserve 1 cs), limit.L7)
    ∷ (list_any (λ (d : PredDecl). nat_lt 1024 (length d.sorts)) preds, limit.L8)
    ∷ (nat_lt 65536 (length cs + reserve 1 cs), limit.L9)
    ∷ (list_any (λ c. nat_lt 4096 (width c)) cs, limit.L10)
    ∷ (list_any (λ (c : Clause). nat_lt 256 (length c.body)) cs, limit.L11)
    ∷ (list_any (λ (c : Clause). nat_lt 4096 c.weight) cs, limit.L15)
    ∷ [])
