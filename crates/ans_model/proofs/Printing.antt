-- Definitions that are printed for a state, with the names that their text has.
use Rattle.std.proofs.Common.{ℕ, List}
use Rattle.chc_state.specs.declared.defs.Defs.{Defs}
use Rattle.chc_state.specs.Definitions.{Defines}
use Rattle.chc_state.specs.Names.{AreNamesOf}
use Rattle.chc_state.specs.States.{StateView}
use Rattle.chc_print.specs.Helpers.{NamesPredicates}
use Rattle.chc_print.specs.Prefix.{IsVariablePrefix, used_names}
use Rattle.ans_model.specs.Texts.{NamesDefinitions}

-- the definitions define the state's live predicates, whose names can be these; all predicates, the definitions and the
-- variables are named so in the text
pub record Printing : Type 0 where
  pub state : StateView
  pub names : List (List ℕ)
  pub all : List (List ℕ)
  pub calls : List (List ℕ)
  pub prefix : List ℕ
  pub defs : Defs
  pub given : AreNamesOf state names
  pub naming : NamesPredicates state names all
  pub variables : IsVariablePrefix (used_names state.sig names) prefix
  pub defines : Defines defs state
  pub calling : NamesDefinitions state names all defs calls
