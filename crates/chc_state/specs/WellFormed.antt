-- What a state keeps of each of its clauses.
use Rattle.std.specs.Prelude.{ℕ, Bool, true, false, not, ◌&&◌, List, Option}
use Rattle.std.specs.List.{list_all, position_from}
use Rattle.chc_sorts.specs.declared.sort.Sort.{Sort}
use Rattle.chc_sorts.specs.declared.op.Op.{Op}
use Rattle.chc_sorts.specs.declared.op.Op.TheVariants as op
use Rattle.chc_sorts.specs.Signature.{Signature}
use Rattle.chc_sorts.specs.Sorts.{sort_fits}
use Rattle.chc_terms.specs.declared.term.Term.{Term, Term-F, out-Term}
use Rattle.chc_terms.specs.Numbers.{numbers_fit}
use Rattle.chc_terms.specs.Sorted.{sorts_fit}
use Rattle.chc_state.specs.declared.clause.Atom.{Atom}
use Rattle.chc_state.specs.declared.clause.Clause.{Clause}
use Rattle.chc_state.specs.declared.clause.PredDecl.{PredDecl}
use Rattle.chc_state.specs.States.{clause_uses_live, head_all}
use Rattle.chc_state.specs.Sorts.{positions, positions_fit, is_sorted_clause}

abbrev pub is_and : Op → Bool
is_and op.And = true
is_and o = false

-- whether the term is neither a conjunction nor `true`, so that it is a part by itself
abbrev pub is_part_level : Term-F Term → Bool
is_part_level (Term-F.Var i) = true
is_part_level (Term-F.Num n) = true
is_part_level (Term-F.Lit b) = not b
is_part_level (Term-F.App o ts) = not (is_and o)
is_part_level (Term-F.Pred p ts) = true
is_part_level (Term-F.Quant k sorts t) = true
is_part_level (Term-F.Call k ts) = true

abbrev pub is_part : Term → Bool
is_part t = is_part_level (out-Term t)

-- whether the sorts that the term writes out fit, and its numbers are in range
abbrev pub term_fits : Signature → Term → Bool
term_fits sig t = sorts_fit sig t && numbers_fit t

abbrev pub atom_fits : Signature → Atom → Bool
atom_fits sig a = list_all (term_fits sig) a.args

-- whether the sorts of the clause's variables fit, and all its terms
abbrev pub clause_fits : Signature → Clause → Bool
clause_fits sig c =
    list_all (sort_fits sig) c.vars && list_all (term_fits sig) c.conj && list_all (atom_fits sig) c.body && head_all (atom_fits sig) c.head

-- whether the clause is well formed over predicates with positions of these sorts: it is well sorted, its sorts and
-- numbers fit, and each conjunct is a part by itself
abbrev pub is_well_formed : Signature → List (List Sort) → Clause → Bool
is_well_formed sig preds c = is_sorted_clause sig preds c && clause_fits sig c && list_all is_part c.conj

-- whether the sorts of all positions fit, and all the clauses are well formed
abbrev pub are_well_formed : Signature → List PredDecl → List Clause → Bool
are_well_formed sig preds cs = positions_fit sig preds && list_all (is_well_formed sig (positions preds)) cs

-- whether the clause may stand in a state: it is well formed, and uses live predicates alone
abbrev pub may_stand : Signature → List PredDecl → Clause → Bool
may_stand sig preds c = is_well_formed sig (positions preds) c && clause_uses_live preds c

-- the number of the first clause that may not stand in a state
abbrev pub first_bad : Signature → List PredDecl → List Clause → Option ℕ
first_bad sig preds cs = position_from (λ c. not (may_stand sig preds c)) 0 cs
