-- What clauses and their assertions have to do with each other.
use Rattle.std.specs.Prelude.{◌≡◌, IsTrue, List, Ok}
use Rattle.chc_sorts.specs.declared.sort.Sort.{Sort}
use Rattle.chc_sorts.specs.Signature.{Signature}
use Rattle.chc_state.specs.declared.clause.Clause.{Clause}
use Rattle.chc_state.specs.WellFormed.{is_well_formed}
use Rattle.chc_script.specs.Horn.{clause_of}
use Rattle.read_again.specs.ClauseTerms.{assertion_of, clause_again}

-- the assertion of a well-formed clause says the clause
abbrev pub SaysItsClause : Type 0
SaysItsClause = (sig : Signature) (preds : List (List Sort)) (c : Clause) → IsTrue (is_well_formed sig preds c) → clause_of (assertion_of c) ≡ Ok (clause_again c)
