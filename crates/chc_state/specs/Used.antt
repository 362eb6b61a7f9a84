-- Which datatypes a state uses: those that it names, those of their fields, and so on.
use Rattle.std.specs.Prelude.{◌+◌, ℕ, zero, suc, Bool, true, false, ◌&&◌, ◌||◌, cond, nat_eq, List, [], ◌∷◌, length, map, Option, Some, None, slice_get}
use Rattle.std.specs.List.{list_any}
use Rattle.chc_sorts.specs.declared.sort.Sort.{Sort, Sort-F, fold-Sort}
use Rattle.chc_sorts.specs.declared.data.Data.{Data}
use Rattle.chc_sorts.specs.declared.data.Ctor.{Ctor}
use Rattle.chc_sorts.specs.declared.data.Field.{Field}
use Rattle.chc_sorts.specs.declared.op.Op.{Op}
use Rattle.chc_sorts.specs.declared.op.Op.TheVariants as op
use Rattle.chc_terms.specs.declared.term.Term.{Term, Term-F, fold-Term}
use Rattle.chc_state.specs.declared.clause.Atom.{Atom}
use Rattle.chc_state.specs.declared.clause.Clause.{Clause}
use Rattle.chc_state.specs.declared.clause.PredDecl.{PredDecl}
use Rattle.chc_state.specs.States.{StateView, head_any}

abbrev pub sort_names_step : ℕ → Sort-F Bool → Bool
sort_names_step d Sort-F.Bool = false
sort_names_step d Sort-F.Int = false
sort_names_step d (Sort-F.Data e) = nat_eq e d
sort_names_step d (Sort-F.Array element) = element

-- whether the sort is the datatype d, or an array sort whose element sort names d
abbrev pub sort_names : ℕ → Sort → Bool
sort_names d = fold-Sort Bool (sort_names_step d)

-- whether the operator names d: a constant array by the sort of its elements, a constructor, selector or tester by its datatype
abbrev pub op_names : ℕ → Op → Bool
op_names d (op.Const element) = sort_names d element
op_names d (op.Make e c) = nat_eq e d
op_names d (op.Get e c i) = nat_eq e d
op_names d (op.Is e c) = nat_eq e d
op_names d o = false

abbrev pub term_names_step : ℕ → Term-F Bool → Bool
term_names_step d (Term-F.Var i) = false
term_names_step d (Term-F.Num n) = false
term_names_step d (Term-F.Lit b) = false
term_names_step d (Term-F.App o parts) = op_names d o || list_any (λ b. b) parts
term_names_step d (Term-F.Pred p parts) = list_any (λ b. b) parts
term_names_step d (Term-F.Quant k sorts part) = list_any (sort_names d) sorts || part
term_names_step d (Term-F.Call k parts) = list_any (λ b. b) parts

-- whether an operator in the term names d, or a sort that the term binds
abbrev pub term_names : ℕ → Term → Bool
term_names d = fold-Term Bool (term_names_step d)

abbrev pub atom_names : ℕ → Atom → Bool
atom_names d a = list_any (term_names d) a.args

-- whether a variable's sort or a term of the clause names d
abbrev pub clause_names : ℕ → Clause → Bool
clause_names d c = list_any (sort_names d) c.vars || list_any (term_names d) c.conj || list_any (atom_names d) c.body || head_any (atom_names d) c.head

-- whether the predicate is live and the sort of a position names d
abbrev pub decl_names : ℕ → PredDecl → Bool
decl_names d p = p.live && list_any (sort_names d) p.sorts

abbrev pub state_names : StateView → ℕ → Bool
state_names s d = list_any (decl_names d) s.preds || list_any (clause_names d) s.clauses

-- whether the sort of a field of the datatype names d
abbrev pub data_names : ℕ → Data → Bool
data_names d t = list_any (λ (k : Ctor). list_any (λ (f : Field). sort_names d f.sort) k.fields) t.ctors

-- whether a datatype of the list, the first of which has the number n, passes the test
abbrev pub some_passes : (ℕ → Data → Bool) → ℕ → List Data → Bool
some_passes test n [] = false
some_passes test n (t ∷ ts) = test n t || some_passes test (n + 1) ts

-- whether d is named by the state, or by a field of a datatype that is used in fewer turns
abbrev pub is_used_within : StateView → ℕ → ℕ → Bool
is_used_within s zero d = state_names s d
is_used_within s (suc n) d = is_used_within s n d || some_passes (λ e t. is_used_within s n e && data_names d t) 0 s.sig.datatypes

-- whether d is used; there are no more turns than datatypes
abbrev pub is_used : StateView → ℕ → Bool
is_used s d = is_used_within s (length s.sig.datatypes) d
