-- The texts of definitions.
use Rattle.std.specs.Prelude.{◌≡◌, ◌+◌, ℕ, List, [], ◌∷◌, ◌++◌, length, count_by, Option, Some, None, is_none, slice_get, codes}
use Rattle.chc_state.specs.declared.defs.Def.{Def}
use Rattle.chc_state.specs.declared.defs.Defs.{Defs}
use Rattle.chc_state.specs.States.{StateView}
use Rattle.chc_sexpr.specs.Symbols.{symbol_text}
use Rattle.chc_sexpr.specs.Writing.{joined}
use Rattle.chc_print.specs.Helpers.{AreHelpers, NamesPredicates}
use Rattle.chc_print.specs.Prefix.{used_names, IsVariablePrefix}
use Rattle.chc_print.specs.Script.{names_over}
use Rattle.chc_print.specs.Texts.{Names, name_at, sort_text, binder_texts, term_text}

-- the definition of a name up to its body; the parameters are numbered from 0
abbrev pub signature_text : Names → List ℕ → Def → List ℕ
signature_text names name d =
    codes "(define-fun " ++ symbol_text name ++ codes " (" ++ joined (binder_texts names 0 d.params) ++ codes ") " ++ sort_text names.sig d.result ++ codes " "

-- the line of the definition of a name
abbrev pub definition_text : Names → List ℕ → Def → List ℕ
definition_text names name d = signature_text names name d ++ term_text names d.body (length d.params) ++ codes ")\n"

-- the lines of definitions, of which the first has the number k
abbrev pub definitions_text : Names → ℕ → List Def → List ℕ
definitions_text names k [] = []
definitions_text names k (d ∷ ds) = definition_text names (name_at names.calls k) d ++ definitions_text names (k + 1) ds

-- the lines of an answer with these definitions
abbrev pub lines_of_defs : Names → List Def → List ℕ
lines_of_defs names defs = codes "sat\n(\n" ++ definitions_text names 0 defs ++ codes ")\n"

-- for each definition the predicate that it defines, if it defines one
pub record AreOwners (d : Defs) (owners : List (Option ℕ)) : Type 0 where
  pub count : length owners ≡ length d.list
  pub owned : (p k : ℕ) → slice_get d.of p ≡ Some (Some k) → slice_get owners k ≡ Some (Some p)
  pub only : (p k : ℕ) → slice_get owners k ≡ Some (Some p) → slice_get d.of p ≡ Some (Some k)

-- the names of definitions with these owners: those of the predicates, and for the others these from number n on
abbrev pub called : List (List ℕ) → List (List ℕ) → ℕ → List (Option ℕ) → List (List ℕ)
called preds lifts n [] = []
called preds lifts n (None ∷ owners) = name_at lifts n ∷ called preds lifts (n + 1) owners
called preds lifts n (Some p ∷ owners) = name_at preds p ∷ called preds lifts n owners

-- the names of definitions by number: that of the predicate, and `lift!` with a number for each definition that is none's
pub record NamesDefinitions (s : StateView) (names preds : List (List ℕ)) (d : Defs) (calls : List (List ℕ)) : Type 0 where
  pub owners : List (Option ℕ)
  pub lifts : List (List ℕ)
  pub owned : AreOwners d owners
  pub count : length lifts ≡ count_by is_none owners
  pub are_next : AreHelpers (used_names s.sig names) (codes "lift!") lifts
  pub whole : calls ≡ called preds lifts 0 owners

-- the text is that of the definitions, where predicates and definitions have these names, and variables are named by the
-- prefix that the names in use leave
abbrev pub IsDefsText : Defs → StateView → List (List ℕ) → List ℕ → Type 0
IsDefsText d s names text =
    (prefix : List ℕ) × (all calls : List (List ℕ)) × IsVariablePrefix (used_names s.sig names) prefix × NamesPredicates s names all
    × NamesDefinitions s names all d calls × (text ≡ lines_of_defs (names_over s all calls prefix) d.list)
