-- The script that the text of a state says.
use Rattle.std.specs.Prelude.{◌≡◌, ℕ, IsTrue, List, map, None, Ok}
use Rattle.std.specs.List.{AllByRecursion}
use Rattle.chc_sorts.specs.Made.{CanBeMade}
use Rattle.chc_terms.specs.declared.term.Term.{Term}
use Rattle.chc_state.specs.States.{StateView, uses_live}
use Rattle.chc_state.specs.Names.{AreNamesOf}
use Rattle.chc_state.specs.Limits.{first_passed}
use Rattle.chc_state.specs.WellFormed.{are_well_formed}
use Rattle.chc_script.specs.Scripts.{ScriptView}
use Rattle.chc_script.specs.WholeScripts.{Says}
use Rattle.chc_print.specs.Helpers.{NamesPredicates}
use Rattle.chc_print.specs.Reach.{state_reach}
use Rattle.chc_print.specs.Script.{IsScriptText}
use Rattle.read_again.specs.ClauseTerms.{assertion_of}
use Rattle.read_again.specs.ClauseCounts.{IsReadable}
use Rattle.read_again.specs.FirstGroups.{reached_signature}
use Rattle.read_again.specs.LivePredicates.{live_names, live_preds, renumbered, clauses_again}

-- the state that is read: the groups of datatypes up to the last one that the state reaches, its live predicates, and its
-- clauses with the numbers of these
abbrev pub state_again : StateView → StateView
state_again s = record { sig = reached_signature s.sig (state_reach s); preds = live_preds s.preds; clauses = clauses_again s.preds s.clauses }

-- what its clauses assert
abbrev pub assertions_again : StateView → List Term
assertions_again s = map (λ c. assertion_of (renumbered s.preds c)) s.clauses

-- the script that is read, where these are the names of the state's predicates
abbrev pub script_again : List (List ℕ) → StateView → ScriptView
script_again names s = record { state = state_again s; names = live_names names 0 s.preds; assertions = assertions_again s }

-- what is known of every state
pub record IsKept (s : StateView) : Type 0 where
  pub made : CanBeMade s.sig
  pub formed : IsTrue (are_well_formed s.sig s.preds s.clauses)
  pub live : IsTrue (uses_live s.preds s.clauses)
  pub within : first_passed s.preds s.clauses ≡ None

-- the assertion of each clause is no larger and no deeper than a term may be
abbrev pub AreReadable : StateView → Type 0
AreReadable s = AllByRecursion IsReadable s.clauses

-- the bytes say that script, by the names of the state's predicates and those of helpers
abbrev pub SaysState : StateView → List (List ℕ) → List ℕ → Type 0
SaysState s names bytes = (all : List (List ℕ)) × NamesPredicates s names all × Says bytes (Ok (script_again all s))

-- the text of a state whose clauses are readable says its script
abbrev pub PrintedIsRead : Type 0
PrintedIsRead =
    (s : StateView) (names : List (List ℕ)) (text : List ℕ) → IsKept s → AreNamesOf s names → AreReadable s → IsScriptText s names text → SaysState s names text
