-- The names of scripts that are read.
use Rattle.std.specs.Prelude.{ℕ, List, Ok}
use Rattle.chc_script.specs.Scripts.{ScriptView}
use Rattle.chc_script.specs.WholeScripts.{Says}
use Rattle.term_again.specs.Naming.{AreFresh}

-- the names of the signature of a script that bytes stand for differ, and none is fixed
abbrev pub ReadIsFresh : Type 0
ReadIsFresh = (bytes : List ℕ) (X : ScriptView) → Says bytes (Ok X) → AreFresh X.state.sig
