-- The assertion of a clause, as a term, and the clause that it says.
use Rattle.std.specs.Prelude.{false, List, [], ◌∷◌, ◌++◌, map, Option, Some, None}
use Rattle.chc_sorts.specs.declared.sort.Sort.{Sort}
use Rattle.chc_sorts.specs.declared.op_table.ReadOp.TheVariants as read
use Rattle.chc_terms.specs.declared.term.Kind.TheVariants as kind
use Rattle.chc_terms.specs.declared.term.Term.{Term}
use Rattle.chc_terms.specs.declared.term.Term.TheVariants as term
use Rattle.chc_elab.specs.Building.{operation}
use Rattle.chc_state.specs.declared.clause.Atom.{Atom}
use Rattle.chc_state.specs.declared.clause.Clause.{Clause}

-- an atom
abbrev pub atom_term : Atom → Term
atom_term a = term.Pred a.pred a.args

-- the head of a clause, or false
abbrev pub head_term : Option Atom → Term
head_term None = term.Lit false
head_term (Some a) = atom_term a

-- the body atoms, then the conjuncts
abbrev pub part_terms : Clause → List Term
part_terms c = map atom_term c.body ++ c.conj

-- the head, where there are parts as what they imply, read by the rows of `=>` and `and`
abbrev pub implied_term : List Term → Term → Term
implied_term [] head = head
implied_term (t ∷ ts) head = operation read.Implies (operation read.And (t ∷ ts) ∷ head ∷ [])

abbrev pub matrix_term : Clause → Term
matrix_term c = implied_term (part_terms c) (head_term c.head)

-- under a quantifier over the variables, where there are any
abbrev pub closed_term : List Sort → Term → Term
closed_term [] matrix = matrix
closed_term (s ∷ sorts) matrix = term.Quant kind.Forall (s ∷ sorts) matrix

-- the assertion that the line of a clause stands for
abbrev pub assertion_of : Clause → Term
assertion_of c = closed_term c.vars (matrix_term c)

-- the clause with weight 1, as a script's clauses have it
abbrev pub clause_again : Clause → Clause
clause_again c = record { vars = c.vars; conj = c.conj; body = c.body; head = c.head; weight = 1 }
