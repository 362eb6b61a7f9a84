-- How far into the datatypes a state reaches: how many there are up to the last one that it names, or 0 where it names
-- none. A state uses the datatypes that it names, and those of their fields and of array elements, and so on. As fields
-- are of datatypes of the same group or of earlier ones, the last group with a used datatype is the last with a named one.
use Rattle.std.specs.Prelude.{ℕ, ◌+◌, max, List, map, Option, Some, None, if◌then◌else◌}
use Rattle.chc_sorts.specs.declared.sort.Sort.{Sort, Sort-F, fold-Sort}
use Rattle.chc_sorts.specs.declared.op.Op.{Op}
use Rattle.chc_sorts.specs.declared.op.Op.TheVariants as op
use Rattle.chc_terms.specs.Counts.{greatest}
use Rattle.chc_terms.specs.declared.term.Term.{Term, Term-F, fold-Term}
use Rattle.chc_state.specs.declared.clause.Atom.{Atom}
use Rattle.chc_state.specs.declared.clause.Clause.{Clause}
use Rattle.chc_state.specs.declared.clause.PredDecl.{PredDecl}
use Rattle.chc_state.specs.States.{StateView}

abbrev pub sort_reach_step : Sort-F ℕ → ℕ
sort_reach_step Sort-F.Bool = 0
sort_reach_step Sort-F.Int = 0
sort_reach_step (Sort-F.Data d) = d + 1
sort_reach_step (Sort-F.Array element) = element

-- a sort, and the elements of arrays
abbrev pub sort_reach : Sort → ℕ
sort_reach = fold-Sort ℕ sort_reach_step

abbrev pub sorts_reach : List Sort → ℕ
sorts_reach sorts = greatest (map sort_reach sorts)

-- a constant array names the sort of its elements; constructors, selectors and testers name their datatype
abbrev pub op_reach : Op → ℕ
op_reach (op.Const element) = sort_reach element
op_reach (op.Make d c) = d + 1
op_reach (op.Get d c i) = d + 1
op_reach (op.Is d c) = d + 1
op_reach o = 0

abbrev pub term_reach_step : Term-F ℕ → ℕ
term_reach_step (Term-F.Var i) = 0
term_reach_step (Term-F.Num n) = 0
term_reach_step (Term-F.Lit b) = 0
term_reach_step (Term-F.App o parts) = max (op_reach o) (greatest parts)
term_reach_step (Term-F.Pred p parts) = greatest parts
term_reach_step (Term-F.Quant k sorts part) = max (sorts_reach sorts) part
term_reach_step (Term-F.Call k parts) = greatest parts

-- the operators of a term, and the sorts that its quantifiers bind
abbrev pub term_reach : Term → ℕ
term_reach = fold-Term ℕ term_reach_step

abbrev pub terms_reach : List Term → ℕ
terms_reach ts = greatest (map term_reach ts)

abbrev pub atom_reach : Atom → ℕ
atom_reach a = terms_reach a.args

abbrev pub head_reach : Option Atom → ℕ
head_reach None = 0
head_reach (Some a) = atom_reach a

-- the variables of a clause, and its terms
abbrev pub clause_reach : Clause → ℕ
clause_reach c = max (max (sorts_reach c.vars) (terms_reach c.conj)) (max (greatest (map atom_reach c.body)) (head_reach c.head))

-- the positions of a live predicate
abbrev pub decl_reach : PredDecl → ℕ
decl_reach d = if d.live then sorts_reach d.sorts else 0

abbrev pub state_reach : StateView → ℕ
state_reach s = max (greatest (map decl_reach s.preds)) (greatest (map clause_reach s.clauses))
