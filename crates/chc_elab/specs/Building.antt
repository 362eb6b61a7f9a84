-- The terms that operators and other heads stand for, on terms for their arguments.
use Rattle.std.specs.Prelude.{ℕ, ℤ, pos, ◌+◌, Bool, true, false, not, ◌&&◌, nat_eq, nat_lt, cond, List, [], ◌∷◌, ◌++◌, length, map, Option, Some, None, Ok}
use Rattle.std.specs.List.{list_all}
use Rattle.std.specs.Option.{option_and_then, option_map}
use Rattle.chc_sorts.specs.declared.sort.Sort.{Sort}
use Rattle.chc_sorts.specs.declared.sort.Sort.TheVariants as sort
use Rattle.chc_sorts.specs.declared.op.Op.{Op}
use Rattle.chc_sorts.specs.declared.op.Op.TheVariants as op
use Rattle.chc_sorts.specs.declared.op_table.ReadOp.{ReadOp}
use Rattle.chc_sorts.specs.declared.op_table.ReadOp.TheVariants as read
use Rattle.chc_sorts.specs.Signature.{Signature}
use Rattle.chc_sorts.specs.Sorts.{same_sort, same_sorts}
use Rattle.chc_sexpr.specs.declared.fault.Fault.TheVariants.{WrongSort, TooLarge, TooDeep}
use Rattle.chc_terms.specs.declared.fun_sort.FunSort.{FunSort}
use Rattle.chc_terms.specs.declared.term.Term.{Term}
use Rattle.chc_terms.specs.declared.term.Term.TheVariants as term
use Rattle.chc_terms.specs.Counts.{size, depth}
use Rattle.chc_terms.specs.Sorted.{op_sort, fields_of, element_of, equation_sort, choice_sort, read_sort, write_sort, truth_at, result_at, when}
use Rattle.chc_elab.specs.declared.symbols.Symbol.{Symbol}
use Rattle.chc_elab.specs.declared.symbols.Symbol.TheVariants as symbol
use Rattle.chc_elab.specs.declared.typed.Typed.{Typed}
use Rattle.chc_elab.specs.declared.head.Head.{Head}
use Rattle.chc_elab.specs.declared.head.Head.TheVariants as head
use Rattle.chc_elab.specs.Limits.{most_nodes, most_levels}
use Rattle.chc_elab.specs.Sites.{Reading, faulty, or_fault, ◌>>>◌}

-- whether an operator takes so many arguments
abbrev pub takes : ReadOp → ℕ → Bool
takes read.Not n = nat_eq n 1
takes read.Implies n = nat_lt 1 n
takes read.And n = nat_lt 0 n
takes read.Or n = nat_lt 0 n
takes read.Xor n = nat_lt 1 n
takes read.Eq n = nat_lt 1 n
takes read.Distinct n = nat_lt 1 n
takes read.Ite n = nat_eq n 3
takes read.Sub n = nat_lt 0 n
takes read.Add n = nat_lt 0 n
takes read.Mul n = nat_lt 0 n
takes read.Div n = nat_lt 1 n
takes read.Mod n = nat_eq n 2
takes read.Abs n = nat_eq n 1
takes read.Le n = nat_lt 1 n
takes read.Lt n = nat_lt 1 n
takes read.Ge n = nat_lt 1 n
takes read.Gt n = nat_lt 1 n
takes read.Select n = nat_eq n 2
takes read.Store n = nat_eq n 3

-- whether there are so many of them
abbrev pub is_as_many : {A : Type 0} → ℕ → Option (List A) → Bool
is_as_many n None = false
is_as_many n (Some xs) = nat_eq n (length xs)

-- the parameters of a declared name
abbrev pub parameters : Symbol → List Sort
parameters (symbol.Pred p sorts) = sorts
parameters (symbol.Def k f) = f.params

-- whether a head takes so many arguments
abbrev pub head_takes : Signature → Head → ℕ → Bool
head_takes sig (head.Operator o) n = takes o n
head_takes sig (head.Make d c) n = is_as_many n (fields_of sig d c)
head_takes sig (head.OfSort d c s) n = is_as_many n (fields_of sig d c)
head_takes sig (head.Get d c i) n = nat_eq n 1
head_takes sig (head.Is d c) n = nat_eq n 1
head_takes sig (head.Divisible m) n = nat_eq n 1
head_takes sig (head.Constant s) n = nat_eq n 1
head_takes sig (head.Declared s) n = nat_eq n (length (parameters s))

-- the sort, where all the arguments have that one sort
abbrev pub on_all : Sort → Sort → List Sort → Option Sort
on_all of to sorts = when (list_all (same_sort of) sorts) to

-- Bool, where all the arguments have one sort
abbrev pub on_equal : List Sort → Option Sort
on_equal [] = None
on_equal (s ∷ sorts) = when (list_all (same_sort s) sorts) sort.Bool

-- the sort of an operator on arguments of these sorts, of which there are as many as it takes
abbrev pub sort_read_as : ReadOp → List Sort → Option Sort
sort_read_as read.Not sorts = on_all sort.Bool sort.Bool sorts
sort_read_as read.Implies sorts = on_all sort.Bool sort.Bool sorts
sort_read_as read.And sorts = on_all sort.Bool sort.Bool sorts
sort_read_as read.Or sorts = on_all sort.Bool sort.Bool sorts
sort_read_as read.Xor sorts = on_all sort.Bool sort.Bool sorts
sort_read_as read.Eq sorts = on_equal sorts
sort_read_as read.Distinct sorts = on_equal sorts
sort_read_as read.Ite sorts = choice_sort sorts
sort_read_as read.Sub sorts = on_all sort.Int sort.Int sorts
sort_read_as read.Add sorts = on_all sort.Int sort.Int sorts
sort_read_as read.Mul sorts = on_all sort.Int sort.Int sorts
sort_read_as read.Div sorts = on_all sort.Int sort.Int sorts
sort_read_as read.Mod sorts = on_all sort.Int sort.Int sorts
sort_read_as read.Abs sorts = on_all sort.Int sort.Int sorts
sort_read_as read.Le sorts = on_all sort.Int sort.Bool sorts
sort_read_as read.Lt sorts = on_all sort.Int sort.Bool sorts
sort_read_as read.Ge sorts = on_all sort.Int sort.Bool sorts
sort_read_as read.Gt sorts = on_all sort.Int sort.Bool sorts
sort_read_as read.Select sorts = read_sort sorts
sort_read_as read.Store sorts = write_sort sorts

-- a constructor of the sort that `as` names, on arguments of these sorts
abbrev pub qualified_sort : Signature → ℕ → ℕ → Sort → List Sort → Option Sort
qualified_sort sig d c s sorts = cond (same_sort s (sort.Data d)) (op_sort sig (op.Make d c) sorts) None

-- a constant array of that sort
abbrev pub constant_sort : Option Sort → List Sort → Option Sort
constant_sort None sorts = None
constant_sort (Some element) sorts = when (same_sorts sorts (element ∷ [])) (sort.Array element)

-- a declared name on arguments of these sorts
abbrev pub declared_sort : Symbol → List Sort → Option Sort
declared_sort (symbol.Pred p params) sorts = truth_at sorts (Some params)
declared_sort (symbol.Def k f) sorts = result_at sorts (Some f)

-- the sort of a head on arguments of these sorts, where it takes them
abbrev pub head_sort : Signature → Head → List Sort → Option Sort
head_sort sig (head.Operator o) sorts = sort_read_as o sorts
head_sort sig (head.Make d c) sorts = op_sort sig (op.Make d c) sorts
head_sort sig (head.OfSort d c s) sorts = qualified_sort sig d c s sorts
head_sort sig (head.Get d c i) sorts = op_sort sig (op.Get d c i) sorts
head_sort sig (head.Is d c) sorts = op_sort sig (op.Is d c) sorts
head_sort sig (head.Divisible m) sorts = on_all sort.Int sort.Bool sorts
head_sort sig (head.Constant s) sorts = constant_sort (element_of s) sorts
head_sort sig (head.Declared s) sorts = declared_sort s sorts

-- an operator on two terms
abbrev pub pair : Op → Term → Term → Term
pair o a b = term.App o (a ∷ b ∷ [])

abbrev pub negated : Term → Term
negated t = term.App op.Not (t ∷ [])

-- that two terms differ
abbrev pub differ : Term → Term → Term
differ a b = negated (pair op.Eq a b)

-- joined from the left on: the third with what the first two give, and so on
abbrev pub joined_from : (Term → Term → Term) → Term → List Term → Term
joined_from join t [] = t
joined_from join t (u ∷ us) = joined_from join (join t u) us

abbrev pub joined_left : (Term → Term → Term) → List Term → Term
joined_left join [] = term.Lit true
joined_left join (t ∷ ts) = joined_from join t ts

-- the one term, or the operator on all of them
abbrev pub sole : Op → List Term → Term
sole o [] = term.App o []
sole o (t ∷ []) = t
sole o (t ∷ u ∷ more) = term.App o (t ∷ u ∷ more)

-- each term with the one after it
abbrev pub neighbours : (Term → Term → Term) → List Term → List Term
neighbours join [] = []
neighbours join (t ∷ []) = []
neighbours join (t ∷ u ∷ more) = join t u ∷ neighbours join (u ∷ more)

-- each term with each one after it
abbrev pub all_pairs : (Term → Term → Term) → List Term → List Term
all_pairs join [] = []
all_pairs join (t ∷ ts) = map (join t) ts ++ all_pairs join ts

-- what implies the last of the terms: the others, which are negated
abbrev pub negated_before_last : List Term → List Term
negated_before_last [] = []
negated_before_last (t ∷ []) = t ∷ []
negated_before_last (t ∷ u ∷ more) = negated t ∷ negated_before_last (u ∷ more)

-- 0 less the term
abbrev pub opposite : Term → Term
opposite t = pair op.Sub (term.Num (pos 0)) t

-- differences from the left on; of one term, 0 less it
abbrev pub difference : List Term → Term
difference [] = term.Lit true
difference (t ∷ []) = opposite t
difference (t ∷ u ∷ more) = joined_left (pair op.Sub) (t ∷ u ∷ more)

-- the absolute value of a term
abbrev pub absolute : Term → Term
absolute t = term.App op.Ite (pair op.Lt t (term.Num (pos 0)) ∷ opposite t ∷ t ∷ [])

-- what the one term gives
abbrev pub of_one : (Term → Term) → List Term → Term
of_one f [] = term.Lit true
of_one f (t ∷ []) = f t
of_one f (t ∷ u ∷ more) = term.Lit true

-- the two sides turned round
abbrev pub turned : (Term → Term → Term) → Term → Term → Term
turned join a b = join b a

-- the term that an operator stands for on these, of which there are as many as it takes
abbrev pub operation : ReadOp → List Term → Term
operation read.Not ts = term.App op.Not ts
operation read.Implies ts = term.App op.Or (negated_before_last ts)
operation read.And ts = sole op.And ts
operation read.Or ts = sole op.Or ts
operation read.Xor ts = joined_left differ ts
operation read.Eq ts = sole op.And (neighbours (pair op.Eq) ts)
operation read.Distinct ts = sole op.And (all_pairs differ ts)
operation read.Ite ts = term.App op.Ite ts
operation read.Sub ts = difference ts
operation read.Add ts = joined_left (pair op.Add) ts
operation read.Mul ts = joined_left (pair op.Mul) ts
operation read.Div ts = joined_left (pair op.Div) ts
operation read.Mod ts = term.App op.Mod ts
operation read.Abs ts = of_one absolute ts
operation read.Le ts = sole op.And (neighbours (pair op.Le) ts)
operation read.Lt ts = sole op.And (neighbours (pair op.Lt) ts)
operation read.Ge ts = sole op.And (neighbours (turned (pair op.Le)) ts)
operation read.Gt ts = sole op.And (neighbours (turned (pair op.Lt)) ts)
operation read.Select ts = term.App op.Select ts
operation read.Store ts = term.App op.Store ts

-- that a term is divisible by the number
abbrev pub divisible : ℤ → Term → Term
divisible n t = pair op.Eq (pair op.Mod t (term.Num n)) (term.Num (pos 0))

-- a constant array of that sort
abbrev pub constant : Option Sort → List Term → Term
constant None ts = term.Lit true
constant (Some element) ts = term.App (op.Const element) ts

abbrev pub declared_term : Symbol → List Term → Term
declared_term (symbol.Pred p params) ts = term.Pred p ts
declared_term (symbol.Def k f) ts = term.Call k ts

-- the term that a head stands for on these
abbrev pub head_term : Head → List Term → Term
head_term (head.Operator o) ts = operation o ts
head_term (head.Make d c) ts = term.App (op.Make d c) ts
head_term (head.OfSort d c s) ts = term.App (op.Make d c) ts
head_term (head.Get d c i) ts = term.App (op.Get d c i) ts
head_term (head.Is d c) ts = term.App (op.Is d c) ts
head_term (head.Divisible n) ts = of_one (divisible n) ts
head_term (head.Constant s) ts = constant (element_of s) ts
head_term (head.Declared s) ts = declared_term s ts

-- a term that is held to the limits of nodes and depth
abbrev pub held : ℕ → Typed → Reading Typed
held place t = cond (nat_lt most_nodes (size t.term)) (faulty place TooLarge []) (cond (nat_lt most_levels (depth t.term)) (faulty place TooDeep []) (Ok t))

-- a head on its arguments: their sorts first, then the limits
abbrev pub joined : Signature → ℕ → Head → List Typed → Reading Typed
joined sig place h args =
    or_fault (faulty place WrongSort []) (head_sort sig h (map (λ (t : Typed). t.sort) args))
    >>> (λ s. held place (record { term = head_term h (map (λ (t : Typed). t.term) args); sort = s }))
