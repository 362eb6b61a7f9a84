-- What is read where a text says a script: that script, and no fault.
use Rattle.std.proofs.Common.{◌≡◌, sym, subst, ℕ, List, Ok}
use Rattle.chc_script.specs.Scripts.{ScriptView}
use Rattle.chc_script.specs.WholeScripts.{Says, SaysNoScript}
use Rattle.chc_print.specs.Script.{IsScriptText}
use Rattle.chc_state.specs.Names.{AreNamesOf}
use Rattle.read_again.specs.Again.{IsOwnAgain}
use Rattle.read_again.specs.PrintedScripts.{IsKept, AreReadable, SaysState, script_again}
use Rattle.read_again.proofs.ScriptRead.{printed_is_read}

module _ (X : ScriptView) (text : List ℕ) (kept : IsKept X.state) (is : IsScriptText X.state X.names text) (named : AreNamesOf X.state X.names) (readable : AreReadable X.state) (bytes : List ℕ) (same : bytes ≡ text) where
  said : SaysState X.state X.names bytes
  said = subst (SaysState X.state X.names) (sym same) (printed_is_read X.state X.names text kept named readable is)

  pub own_again : (Y : ScriptView) → ((Z : ScriptView) → Says bytes (Ok Z) → Y ≡ Z) → IsOwnAgain X (Ok Y)
  own_again Y only = (said.0, said.1, only (script_again said.0 X.state) said.2)

  pub never_refused : SaysNoScript bytes → ⊥
  never_refused none = none (script_again said.0 X.state) said.2
