-- What a script stands for.
use Rattle.chc_script.specs.declared.script.Script.{Script}

-- the state, the names of its predicates by number, and its assertions
abbrev pub ScriptView : Type 0
ScriptView = Script
