-- The sort of a term, or the first reason why it has none.
use Rattle.std.specs.Prelude.{◌≡◌, ◌↔◌, ℕ, Bool, true, false, nat_eq, nat_lt, List, [], ◌∷◌, ◌++◌, length, map, Option, Some, None, Result, Ok, Err, is_some, slice_get, ⊤}
use Rattle.std.specs.Option.{option_and_then, option_map}
use Rattle.chc_sorts.specs.declared.sort.Sort.{Sort}
use Rattle.chc_sorts.specs.declared.sort.Sort.TheVariants as sort
use Rattle.chc_sorts.specs.declared.op.Op.{Op}
use Rattle.chc_sorts.specs.declared.op.Op.TheVariants as op
use Rattle.chc_sorts.specs.Signature.{Signature}
use Rattle.chc_sorts.specs.Sorts.{same_sort}
use Rattle.chc_terms.specs.declared.context.SortErr.{SortErr}
use Rattle.chc_terms.specs.declared.context.SortErr.TheVariants as refusal
use Rattle.chc_terms.specs.declared.context.Context as Code
use Rattle.chc_terms.specs.declared.fun_sort.FunSort.{FunSort}
use Rattle.chc_terms.specs.declared.term.Term.{Term, Term-F, fold-Term}
use Rattle.chc_terms.specs.Sorted.{Context, sort_of, op_sort, truth_at, result_at, when, fields_of, is_declared, are_declared}

-- whether the datatype, constructor and field that an operator names are there, and the datatypes of its sort
abbrev pub is_op_bound : Signature → Op → Bool
is_op_bound sig (op.Const element) = is_declared sig element
is_op_bound sig (op.Make d c) = is_some (fields_of sig d c)
is_op_bound sig (op.Get d c i) = is_some (option_and_then (λ fields. slice_get fields i) (fields_of sig d c))
is_op_bound sig (op.Is d c) = is_some (fields_of sig d c)
is_op_bound sig o = true

-- whether these are as many as there are sorts
abbrev pub is_count_of : Option (List Sort) → ℕ → Bool
is_count_of None n = false
is_count_of (Some sorts) n = nat_eq n (length sorts)

-- whether the operator takes that many arguments
abbrev pub takes_count : Signature → Op → ℕ → Bool
takes_count sig op.Not n = nat_eq n 1
takes_count sig op.And n = nat_lt 1 n
takes_count sig op.Or n = nat_lt 1 n
takes_count sig op.Eq n = nat_eq n 2
takes_count sig op.Ite n = nat_eq n 3
takes_count sig op.Add n = nat_eq n 2
takes_count sig op.Sub n = nat_eq n 2
takes_count sig op.Mul n = nat_eq n 2
takes_count sig op.Div n = nat_eq n 2
takes_count sig op.Mod n = nat_eq n 2
takes_count sig op.Le n = nat_eq n 2
takes_count sig op.Lt n = nat_eq n 2
takes_count sig op.Select n = nat_eq n 2
takes_count sig op.Store n = nat_eq n 3
takes_count sig (op.Const element) n = nat_eq n 1
takes_count sig (op.Make d c) n = is_count_of (fields_of sig d c) n
takes_count sig (op.Get d c i) n = nat_eq n 1
takes_count sig (op.Is d c) n = nat_eq n 1

-- the sort, or why there is none
abbrev pub or_refused : SortErr → Option Sort → Result Sort SortErr
or_refused e None = Err e
or_refused e (Some s) = Ok s

-- the sort at a node whose numbers are there, whose count is right, whose arguments are judged, and which gives this
-- sort on them; else the first refusal, in this order
abbrev pub judged_node : {X : Type 0} → Bool → Bool → Result X SortErr → (X → Option Sort) → Result Sort SortErr
judged_node false counted arguments result = Err refusal.Unbound
judged_node true false arguments result = Err refusal.WrongCount
judged_node true true (Err e) result = Err e
judged_node true true (Ok sorts) result = or_refused refusal.WrongSort (result sorts)

-- one more answer in front of others; the first refusal counts
abbrev pub and_then_all : Result Sort SortErr → Result (List Sort) SortErr → Result (List Sort) SortErr
and_then_all (Err e) others = Err e
and_then_all (Ok s) (Err e) = Err e
and_then_all (Ok s) (Ok sorts) = Ok (s ∷ sorts)

-- the sorts from left to right, or the first refusal
abbrev pub all_judged : List (Result Sort SortErr) → Result (List Sort) SortErr
all_judged [] = Ok []
all_judged (r ∷ rs) = and_then_all r (all_judged rs)

-- the sorts of terms under variables of these sorts, or the first refusal
abbrev pub judged_under : List Sort → List (List Sort → Result Sort SortErr) → Result (List Sort) SortErr
judged_under vars terms = all_judged (map (λ term. term vars) terms)

-- whether a quantifier binds a variable
abbrev pub binds_some : List Sort → Bool
binds_some [] = false
binds_some (s ∷ sorts) = true

-- an operator on that many arguments, which are judged
abbrev pub judged_operation : Signature → Op → ℕ → Result (List Sort) SortErr → Result Sort SortErr
judged_operation sig o n arguments = judged_node (is_op_bound sig o) (takes_count sig o n) arguments (op_sort sig o)

-- a predicate, whose positions have these sorts where it is there
abbrev pub judged_atom : Option (List Sort) → ℕ → Result (List Sort) SortErr → Result Sort SortErr
judged_atom params n arguments = judged_node (is_some params) (is_count_of params n) arguments (λ sorts. truth_at sorts params)

-- a definition, which has these sorts where it is there
abbrev pub judged_call : Option FunSort → ℕ → Result (List Sort) SortErr → Result Sort SortErr
judged_call f n arguments = judged_node (is_some f) (is_count_of (option_map (λ (g : FunSort). g.params) f) n) arguments (λ sorts. result_at sorts f)

-- a quantifier over variables of these sorts
abbrev pub judged_quantifier : Signature → List Sort → Result Sort SortErr → Result Sort SortErr
judged_quantifier sig sorts body = judged_node (are_declared sig sorts) (binds_some sorts) body (λ s. when (same_sort s sort.Bool) sort.Bool)

-- the sort of each variant over what its children give under variables of given sorts
abbrev pub judged_step : Context → Term-F (List Sort → Result Sort SortErr) → List Sort → Result Sort SortErr
judged_step cx (Term-F.Var i) vars = or_refused refusal.Unbound (slice_get vars i)
judged_step cx (Term-F.Num n) vars = Ok sort.Int
judged_step cx (Term-F.Lit b) vars = Ok sort.Bool
judged_step cx (Term-F.App o terms) vars = judged_operation cx.sig o (length terms) (judged_under vars terms)
judged_step cx (Term-F.Pred p terms) vars = judged_atom (slice_get cx.preds p) (length terms) (judged_under vars terms)
judged_step cx (Term-F.Quant k sorts body) vars = judged_quantifier cx.sig sorts (body (vars ++ sorts))
judged_step cx (Term-F.Call k terms) vars = judged_call (slice_get cx.defs k) (length terms) (judged_under vars terms)

-- the sort of a term under variables of these sorts, or the first refusal
unfoldable pub judged : Context → Term → List Sort → Result Sort SortErr
judged cx = fold-Term (List Sort → Result Sort SortErr) (judged_step cx)

-- the sorts of terms from left to right, or the first refusal
abbrev pub judged_all : Context → List Term → List Sort → Result (List Sort) SortErr
judged_all cx terms vars = judged_under vars (map (judged cx) terms)

-- what the context of the code declares besides variables
abbrev pub declared_in : Code.Context → Context
declared_in cx = record { sig = cx.sig.now; preds = cx.preds.now; defs = cx.defs.now }

-- the answer is that one, or memory was refused
abbrev pub Answers : {A : Type 0} → Result A SortErr → Result A SortErr → Type 0
Answers (Ok a) wanted = Ok a ≡ wanted
Answers (Err refusal.NoMemory) wanted = ⊤
Answers (Err refusal.Unbound) wanted = Err refusal.Unbound ≡ wanted
Answers (Err refusal.WrongCount) wanted = Err refusal.WrongCount ≡ wanted
Answers (Err refusal.WrongSort) wanted = Err refusal.WrongSort ≡ wanted

-- a term is judged to have a sort exactly where it is well sorted, and it is that sort
abbrev pub JudgesExactly : Type 0
JudgesExactly = (cx : Context) (t : Term) (vars : List Sort) (s : Sort) → (judged cx t vars ≡ Ok s) ↔ (sort_of cx t vars ≡ Some s)

-- what is found before the arguments are judged: why the node is refused whatever they are, or which sort it has on them
abbrev pub Leads : {A : Type 0} → Result A SortErr → (A → List Sort → Option Sort) → (Result (List Sort) SortErr → Result Sort SortErr) → Type 0
Leads (Ok a) on node = (arguments : Result (List Sort) SortErr) → node arguments ≡ judged_node true true arguments (on a)
Leads (Err e) on node = (arguments : Result (List Sort) SortErr) → Answers (Err e) (node arguments)

-- what comes of a quantifier's sorts: they stand behind those that are bound, or it is refused whatever the body is
abbrev pub Enters : Signature → List Sort → List Sort → Result ⊤ SortErr → List Sort → Type 0
Enters sig sorts old (Ok done) new = (are_declared sig sorts ≡ true) × (binds_some sorts ≡ true) × (new ≡ old ++ sorts)
Enters sig sorts old (Err e) new =
    (body : Result Sort SortErr) → Answers (Err e) (judged_quantifier sig sorts body)
