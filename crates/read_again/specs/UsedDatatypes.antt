-- Which datatypes a state uses, and that its text declares these.
use Rattle.std.specs.Prelude.{◌≡◌, ◌<◌, ◌≤◌, ℕ, suc, true, List, [], ◌∷◌, ◌++◌, length, Option, Some, None, slice_get}
use Rattle.std.specs.List.{flat_map, concat}
use Rattle.chc_sorts.specs.declared.sort.Sort.{Sort, Sort-F, fold-Sort}
use Rattle.chc_sorts.specs.declared.op.Op.{Op}
use Rattle.chc_sorts.specs.declared.op.Op.TheVariants as op
use Rattle.chc_sorts.specs.declared.data.Data.{Data}
use Rattle.chc_sorts.specs.declared.data.Ctor.{Ctor}
use Rattle.chc_sorts.specs.declared.data.Field.{Field}
use Rattle.chc_sorts.specs.Made.{CanBeMade}
use Rattle.chc_terms.specs.declared.term.Term.{Term, Term-F, fold-Term}
use Rattle.chc_state.specs.declared.clause.Atom.{Atom}
use Rattle.chc_state.specs.declared.clause.Clause.{Clause}
use Rattle.chc_state.specs.declared.clause.PredDecl.{PredDecl}
use Rattle.chc_state.specs.Meaning.{In}
use Rattle.chc_state.specs.States.{StateView}
use Rattle.chc_state.specs.WellFormed.{are_well_formed}
use Rattle.chc_print.specs.Reach.{state_reach}
use Rattle.read_again.specs.FirstGroups.{before_group, groups_reached, reached_signature}

abbrev pub sort_datatypes_step : Sort-F (List ℕ) → List ℕ
sort_datatypes_step Sort-F.Bool = []
sort_datatypes_step Sort-F.Int = []
sort_datatypes_step (Sort-F.Data d) = d ∷ []
sort_datatypes_step (Sort-F.Array element) = element

-- the datatype that a sort names, if it does: its own, or that of its elements
abbrev pub sort_datatypes : Sort → List ℕ
sort_datatypes = fold-Sort (List ℕ) sort_datatypes_step

-- the datatypes that sorts name
abbrev pub sorts_datatypes : List Sort → List ℕ
sorts_datatypes sorts = flat_map sort_datatypes sorts

-- constructors, selectors and testers name their datatype, and a constant array names that of its elements
abbrev pub op_datatypes : Op → List ℕ
op_datatypes (op.Const element) = sort_datatypes element
op_datatypes (op.Make d c) = d ∷ []
op_datatypes (op.Get d c i) = d ∷ []
op_datatypes (op.Is d c) = d ∷ []
op_datatypes o = []

abbrev pub term_datatypes_step : Term-F (List ℕ) → List ℕ
term_datatypes_step (Term-F.Var i) = []
term_datatypes_step (Term-F.Num n) = []
term_datatypes_step (Term-F.Lit b) = []
term_datatypes_step (Term-F.App o parts) = op_datatypes o ++ concat parts
term_datatypes_step (Term-F.Pred p parts) = concat parts
term_datatypes_step (Term-F.Quant k sorts part) = sorts_datatypes sorts ++ part
term_datatypes_step (Term-F.Call k parts) = concat parts

-- the datatypes that a term names: those of its operators, and of the sorts that its quantifiers bind
abbrev pub term_datatypes : Term → List ℕ
term_datatypes = fold-Term (List ℕ) term_datatypes_step

-- the arguments of a head, if there is one
abbrev pub head_args : Option Atom → List Term
head_args None = []
head_args (Some a) = a.args

-- the terms of a clause: its conjuncts, and the arguments of its atoms
abbrev pub clause_terms : Clause → List Term
clause_terms c = c.conj ++ flat_map (λ (a : Atom). a.args) c.body ++ head_args c.head

-- the least set that holds the datatypes in the sorts of the positions of live predicates, in those of the variables of
-- clauses, and in their terms, and with each datatype those in the sorts of its fields
pub data IsUsed (s : StateView) : ℕ → Type 0 where
  of_position : (p : PredDecl) (d : ℕ) → In p s.preds → p.live ≡ true → In d (sorts_datatypes p.sorts) → IsUsed s d
  of_variable : (c : Clause) (d : ℕ) → In c s.clauses → In d (sorts_datatypes c.vars) → IsUsed s d
  of_term : (c : Clause) (t : Term) (d : ℕ) → In c s.clauses → In t (clause_terms c) → In d (term_datatypes t) → IsUsed s d
  of_field : (e d : ℕ) (t : Data) (k : Ctor) (f : Field) → IsUsed s e → slice_get s.sig.datatypes e ≡ Some t → In k t.ctors → In f k.fields → In d (sort_datatypes f.sort) → IsUsed s d

-- each used datatype of a state of well-formed clauses stands in the groups that its text declares
abbrev pub UsedAreDeclared : Type 0
UsedAreDeclared =
    (s : StateView) → CanBeMade s.sig → are_well_formed s.sig s.preds s.clauses ≡ true → (d : ℕ) → IsUsed s d → d < length (reached_signature s.sig (state_reach s)).datatypes

-- and the last of these groups, where there are any, has a used datatype
abbrev pub LastDeclaredIsUsed : Type 0
LastDeclaredIsUsed =
    (s : StateView) → CanBeMade s.sig → are_well_formed s.sig s.preds s.clauses ≡ true → (n : ℕ) → groups_reached (state_reach s) 0 s.sig.groups ≡ suc n
    → (d : ℕ) × IsUsed s d × (before_group s.sig n ≤ d) × (d < before_group s.sig (suc n))
