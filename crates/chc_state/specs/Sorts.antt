-- Well-sorted clauses, over predicates whose sorts fit.
use Rattle.std.specs.Prelude.{Bool, false, ◌&&◌, List, [], map, Option, Some, None, slice_get}
use Rattle.std.specs.List.{list_all}
use Rattle.chc_sorts.specs.declared.sort.Sort.{Sort}
use Rattle.chc_sorts.specs.declared.sort.Sort.TheVariants as sort
use Rattle.chc_sorts.specs.Signature.{Signature}
use Rattle.chc_terms.specs.declared.term.Term.{Term}
use Rattle.chc_sorts.specs.Sorts.{same_sort, same_sorts, sort_fits}
use Rattle.chc_terms.specs.Sorted.{Context, sort_of, sorts_of, is_plain}
use Rattle.chc_state.specs.declared.clause.Atom.{Atom}
use Rattle.chc_state.specs.declared.clause.Clause.{Clause}
use Rattle.chc_state.specs.declared.clause.PredDecl.{PredDecl}
use Rattle.chc_state.specs.States.{head_all}

-- what the terms of clauses are over: no predicate and no definition
abbrev pub clause_context : Signature → Context
clause_context sig = record { sig = sig; preds = []; defs = [] }

-- whether there is a sort, and it is that one
abbrev pub is_sort : Sort → Option Sort → Bool
is_sort s None = false
is_sort s (Some t) = same_sort t s

-- whether both lists are there and have the same sorts
abbrev pub are_sorts : Option (List Sort) → Option (List Sort) → Bool
are_sorts None sorts = false
are_sorts (Some ss) None = false
are_sorts (Some ss) (Some ts) = same_sorts ss ts

-- the sorts of the positions of the predicates, by number
abbrev pub positions : List PredDecl → List (List Sort)
positions preds = map (λ (d : PredDecl). d.sorts) preds

-- whether the term is plain and of sort Bool
abbrev pub is_condition : Signature → List Sort → Term → Bool
is_condition sig vars t = is_plain t && is_sort sort.Bool (sort_of (clause_context sig) t vars)

-- whether the atom's arguments are plain, and of the sorts of the predicate's positions
abbrev pub is_sorted_atom : Signature → List (List Sort) → List Sort → Atom → Bool
is_sorted_atom sig preds vars a = list_all is_plain a.args && are_sorts (sorts_of (clause_context sig) a.args vars) (slice_get preds a.pred)

-- whether all conjuncts and atoms of the clause are well sorted
abbrev pub is_sorted_clause : Signature → List (List Sort) → Clause → Bool
is_sorted_clause sig preds c =
    list_all (is_condition sig c.vars) c.conj && list_all (is_sorted_atom sig preds c.vars) c.body && head_all (is_sorted_atom sig preds c.vars) c.head

-- whether the sorts of all positions fit the signature
abbrev pub positions_fit : Signature → List PredDecl → Bool
positions_fit sig preds = list_all (list_all (sort_fits sig)) (positions preds)

-- whether the sorts of all positions fit, and all the clauses are well sorted
abbrev pub are_sorted : Signature → List PredDecl → List Clause → Bool
are_sorted sig preds cs = positions_fit sig preds && list_all (is_sorted_clause sig (positions preds)) cs
