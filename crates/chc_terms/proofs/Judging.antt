-- How an answer on arguments becomes one on their node.
use Rattle.std.proofs.Common.{◌≡◌, true, List, ◌++◌, Option, Result, Ok, Err, ap, sym, ◌∙◌, subst, append_assoc}
use Rattle.chc_sorts.specs.declared.sort.Sort.{Sort}
use Rattle.chc_terms.specs.declared.context.SortErr.{SortErr}
use Rattle.chc_terms.specs.declared.context.SortErr.TheVariants as refusal
use Rattle.chc_sorts.specs.declared.sort.Sort.TheVariants as sort
use Rattle.chc_sorts.specs.Sorts.{same_sort}
use Rattle.chc_terms.specs.declared.term.Kind.{Kind}
use Rattle.chc_terms.specs.declared.term.Term.{Term}
use Rattle.chc_terms.specs.declared.term.Term.TheVariants.{Quant}
use Rattle.chc_terms.specs.Sorted.{Context, are_declared, when}
use Rattle.chc_terms.specs.Judged.{judged, judged_node, judged_quantifier, binds_some, Answers}
use Rattle.chc_terms.proofs.JudgedLaws.{judged-Quant}

-- these sorts in front of those of the answer
abbrev pub in_front : List Sort → Result (List Sort) SortErr → Result (List Sort) SortErr
in_front made (Ok sorts) = Ok (made ++ sorts)
in_front made (Err e) = Err e

-- a refusal of the arguments is one of the node, where its numbers are there and its count is right
pub refused_on : {X : Type 0} (e : SortErr) (arguments : Result X SortErr) (result : X → Option Sort) → Answers {A = X} (Err e) arguments → Answers {A = Sort} (Err e) (judged_node true true arguments result)
refused_on refusal.Unbound arguments result h = ap (λ r. judged_node true true r result) h
refused_on refusal.WrongCount arguments result h = ap (λ r. judged_node true true r result) h
refused_on refusal.WrongSort arguments result h = ap (λ r. judged_node true true r result) h
refused_on refusal.NoMemory arguments result h = h

-- the same answer is an answer
pub answers_same : (r wanted : Result Sort SortErr) → r ≡ wanted → Answers r wanted
answers_same (Ok s) wanted h = h
answers_same (Err refusal.Unbound) wanted h = h
answers_same (Err refusal.WrongCount) wanted h = h
answers_same (Err refusal.WrongSort) wanted h = h
answers_same (Err refusal.NoMemory) wanted h = tt

-- a quantifier's judgement is its body's, under the variables of more sorts
pub quantifier_is : (cx : Context) (t : Term) (k : Kind) (sorts : List Sort) (body : Term) (vars bound : List Sort) → t ≡ Quant k sorts body
    → judged cx t (vars ++ bound) ≡ judged_quantifier cx.sig sorts (judged cx body (vars ++ (bound ++ sorts)))
quantifier_is cx t k sorts body vars bound is =
    ap (λ u. judged cx u (vars ++ bound)) is ∙ judged-Quant cx k sorts body (vars ++ bound)
    ∙ ap (λ l. judged_quantifier cx.sig sorts (judged cx body l)) (append_assoc vars bound sorts)

-- the same, where its sorts are declared and there are some
pub entered_is : (cx : Context) (t : Term) (k : Kind) (sorts : List Sort) (body inner : Term) (vars bound new : List Sort) → t ≡ Quant k sorts body
    → are_declared cx.sig sorts ≡ true → binds_some sorts ≡ true → new ≡ bound ++ sorts → inner ≡ body
    → judged cx t (vars ++ bound) ≡ judged_node true true (judged cx inner (vars ++ new)) (λ s. when (same_sort s sort.Bool) sort.Bool)
entered_is cx t k sorts body inner vars bound new is declared some more same =
    quantifier_is cx t k sorts body vars bound is
    ∙ (λ j. judged_node (declared j) (some j) (judged cx (sym same j) (vars ++ sym more j)) (λ s. when (same_sort s sort.Bool) sort.Bool))

-- a refusal that is passed on
pub passed_on : (r : Result Sort SortErr) (e : SortErr) (wanted node : Result Sort SortErr) → r ≡ Err e → wanted ≡ node → Answers {A = Sort} (Err e) node → Answers r wanted
passed_on r e wanted node is same h =
    subst (λ x. Answers {A = Sort} x wanted) (sym is) (subst (λ x. Answers {A = Sort} (Err e) x) (sym same) h)
