-- What `assert` makes of a draft, or its first fault.
use Rattle.std.specs.Prelude.{ℕ, cond, List, [], ◌∷◌, Result, Ok, Err, ⊤}
use Rattle.chc_sorts.specs.declared.sort.Sort.TheVariants as sort
use Rattle.chc_sorts.specs.Sorts.{same_sort}
use Rattle.chc_sexpr.specs.declared.tree.Tree.{Tree}
use Rattle.chc_sexpr.specs.declared.fault.Fault.TheVariants.{WrongSort, QuantInside, NotHorn}
use Rattle.chc_terms.specs.declared.term.Term.{Term}
use Rattle.chc_elab.specs.declared.sorted_term.SortedTerm.{SortedTerm}
use Rattle.chc_elab.specs.Sites.{Reading, faulty, ◌>>>◌}
use Rattle.chc_elab.specs.Reads.{elaborated_with_sort}
use Rattle.chc_state.specs.declared.clause.Clause.{Clause}
use Rattle.chc_script.specs.declared.horn.refusal.HornErr.{HornErr}
use Rattle.chc_script.specs.declared.horn.refusal.HornErr.TheVariants as refusal
use Rattle.chc_script.specs.Horn.{clause_of}
use Rattle.chc_script.specs.Commands.{bad, under_logic}
use Rattle.chc_script.specs.Drafts.{DraftView, setting, with_asserted, with_assertion, held_to, passed_by_clause}

-- nothing, or the fault that the term of an assertion isn't of sort Bool
abbrev pub condition : ℕ → SortedTerm → Reading ⊤
condition place t = cond (same_sort t.sort sort.Bool) (Ok tt) (faulty place WrongSort [])

-- the clause, or the fault of an assertion that has none
abbrev pub clause_at : ℕ → Result Clause HornErr → Reading Clause
clause_at place (Ok c) = Ok c
clause_at place (Err refusal.QuantInside) = faulty place QuantInside []
clause_at place (Err refusal.NotHorn) = faulty place NotHorn []
clause_at place (Err refusal.NoMemory) = bad place

-- the draft with an assertion and its clause, within the limits
abbrev pub clause_added : DraftView → ℕ → Term → Clause → Reading DraftView
clause_added d place t c =
    held_to place (passed_by_clause d.asserted.clauses c) >>> (λ _. Ok (with_asserted (with_assertion d.asserted t c) d))

-- the draft with an assertion
abbrev pub assertion_added : DraftView → ℕ → Term → Reading DraftView
assertion_added d place t = clause_at place (clause_of t) >>> (λ c. clause_added d place t c)

-- the assertion of a tree
abbrev pub asserted : DraftView → ℕ → Tree → Reading DraftView
asserted d place tree =
    under_logic d place
    >>> (λ _. elaborated_with_sort (setting d) [] [] tree
    >>> (λ t. condition place t
    >>> (λ _. assertion_added d place t.term)))

-- `(assert F)`
abbrev pub assert : DraftView → ℕ → List Tree → Reading DraftView
assert d place [] = bad place
assert d place (tree ∷ []) = asserted d place tree
assert d place (a ∷ b ∷ more) = bad place
