-- How names are written.
use Rattle.std.specs.Prelude.{ℕ, Bool, not, ◌&&◌, ◌||◌, List, [], ◌∷◌, ◌++◌, if◌then◌else◌, codes}
use Rattle.std.specs.List.{list_any}
use Rattle.std.specs.Str.{bytes_eq}
use Rattle.chc_sexpr.specs.Tokens.{is_simple_symbol, is_reserved}

-- the names of the commands of SMT-LIB 2.6, by their beginning
abbrev pub assertion_commands : List (List ℕ)
assertion_commands = codes "assert" ∷ codes "check-sat" ∷ codes "check-sat-assuming" ∷ codes "echo" ∷ codes "exit" ∷ codes "pop" ∷ codes "push" ∷ codes "reset" ∷ codes "reset-assertions" ∷ []

abbrev pub declaration_commands : List (List ℕ)
declaration_commands = codes "declare-const" ∷ codes "declare-datatype" ∷ codes "declare-datatypes" ∷ codes "declare-fun" ∷ codes "declare-sort" ∷ []

abbrev pub definition_commands : List (List ℕ)
definition_commands = codes "define-fun" ∷ codes "define-fun-rec" ∷ codes "define-funs-rec" ∷ codes "define-sort" ∷ []

abbrev pub question_commands : List (List ℕ)
question_commands =
    codes "get-assertions" ∷ codes "get-assignment" ∷ codes "get-info" ∷ codes "get-model" ∷ codes "get-option" ∷ codes "get-proof" ∷ codes "get-unsat-assumptions" ∷ codes "get-unsat-core" ∷ codes "get-value" ∷ []

abbrev pub setting_commands : List (List ℕ)
setting_commands = codes "set-info" ∷ codes "set-logic" ∷ codes "set-option" ∷ []

-- one of the words
abbrev pub is_one_of : List (List ℕ) → List ℕ → Bool
is_one_of words name = list_any (bytes_eq name) words

-- the name of a command
abbrev pub is_command_name : List ℕ → Bool
is_command_name name =
    is_one_of assertion_commands name || is_one_of declaration_commands name || is_one_of definition_commands name
    || is_one_of question_commands name || is_one_of setting_commands name

-- whether a name is written without bars: a simple symbol that is neither a word of the language nor a command
abbrev pub is_bare : List ℕ → Bool
is_bare name = is_simple_symbol name && not (is_reserved name) && not (is_command_name name)

-- a name as a symbol: as it is, or between bars
unfoldable pub symbol_text : List ℕ → List ℕ
symbol_text name = if is_bare name then name else codes "|" ++ name ++ codes "|"
