-- The text of a script's state, read again.
use Rattle.std.specs.Prelude.{◌≡◌, ℕ, ◌≤◌, ◌^◌, List, length, Result, Ok, Err, ⊤}
use Rattle.chc_print.specs.Helpers.{NamesPredicates}
use Rattle.chc_print.specs.Script.{IsScriptText}
use Rattle.chc_script.specs.Scripts.{ScriptView}
use Rattle.chc_script.specs.WholeScripts.{Says, IsScriptFault}
use Rattle.read_again.specs.declared.again.AgainErr.{AgainErr}
use Rattle.read_again.specs.declared.again.AgainErr.TheVariants as refusal
use Rattle.read_again.specs.PrintedScripts.{script_again}

-- what comes of the text of a script's state: the script for which it stands, or that it is too long, or its first fault;
-- memory may always be refused
abbrev pub IsReadAgain : ScriptView → Result ScriptView AgainErr → Type 0
IsReadAgain X (Ok Y) = (text : List ℕ) × IsScriptText X.state X.names text × Says text (Ok Y)
IsReadAgain X (Err refusal.TooLong) = (text : List ℕ) × IsScriptText X.state X.names text × (2 ^ 32 ≤ length text)
IsReadAgain X (Err (refusal.Refused fault)) = (text : List ℕ) × IsScriptText X.state X.names text × IsScriptFault text fault
IsReadAgain X (Err refusal.NoMemory) = ⊤

-- where the text says the state's own script: that comes of it, by the names of the state's predicates and those of helpers,
-- or the text is too long; it has no fault
abbrev pub IsOwnAgain : ScriptView → Result ScriptView AgainErr → Type 0
IsOwnAgain X (Ok Y) = (all : List (List ℕ)) × NamesPredicates X.state X.names all × (Y ≡ script_again all X.state)
IsOwnAgain X (Err refusal.TooLong) = ⊤
IsOwnAgain X (Err (refusal.Refused fault)) = ⊥
IsOwnAgain X (Err refusal.NoMemory) = ⊤
