-- The text of a script.
use Rattle.std.specs.Prelude.{◌≡◌, ℕ, ◌+◌, List, [], ◌∷◌, ◌++◌, length, map, Option, Some, None, if◌then◌else◌, codes}
use Rattle.std.specs.List.{concat}
use Rattle.chc_sorts.specs.declared.sort.Sort.{Sort}
use Rattle.chc_terms.specs.declared.term.Kind.TheVariants as kind
use Rattle.chc_terms.specs.declared.term.Term.{Term}
use Rattle.chc_state.specs.declared.clause.Atom.{Atom}
use Rattle.chc_state.specs.declared.clause.Clause.{Clause}
use Rattle.chc_state.specs.declared.clause.PredDecl.{PredDecl}
use Rattle.chc_state.specs.States.{StateView}
use Rattle.chc_sexpr.specs.Symbols.{symbol_text}
use Rattle.chc_print.specs.Prefix.{used_names, IsVariablePrefix}
use Rattle.chc_print.specs.Helpers.{NamesPredicates}
use Rattle.chc_sexpr.specs.Writing.{spaced, joined}
use Rattle.chc_print.specs.Texts.{Names, name_at, applied, sort_text, quantified, term_text, term_texts}
use Rattle.chc_print.specs.Reach.{state_reach}
use Rattle.chc_print.specs.Datatypes.{groups_text}

-- an atom
abbrev pub atom_text : Names → ℕ → Atom → List ℕ
atom_text names under a = applied (symbol_text (name_at names.preds a.pred)) (term_texts names under a.args)

-- the head of a clause, or false
abbrev pub head_text : Names → ℕ → Option Atom → List ℕ
head_text names under None = codes "false"
head_text names under (Some a) = atom_text names under a

-- the body atoms, then the conjuncts
abbrev pub part_texts : Names → Clause → List (List ℕ)
part_texts names c = map (atom_text names (length c.vars)) c.body ++ term_texts names (length c.vars) c.conj

-- what the head follows from: the one part, or all of them
abbrev pub tail_text : List (List ℕ) → List ℕ
tail_text [] = []
tail_text (t ∷ []) = t
tail_text (t ∷ u ∷ us) = codes "(and" ++ spaced (t ∷ u ∷ us) ++ codes ")"

-- the head, with the tail where there is one
abbrev pub implied : List (List ℕ) → List ℕ → List ℕ
implied [] head = head
implied (t ∷ ts) head = codes "(=> " ++ tail_text (t ∷ ts) ++ codes " " ++ head ++ codes ")"

abbrev pub matrix_text : Names → Clause → List ℕ
matrix_text names c = implied (part_texts names c) (head_text names (length c.vars) c.head)

-- under a quantifier over the variables, where there are any
abbrev pub closed : Names → List Sort → List ℕ → List ℕ
closed names [] matrix = matrix
closed names (s ∷ sorts) matrix = quantified names kind.Forall 0 (s ∷ sorts) matrix

-- the line of a clause
abbrev pub clause_text : Names → Clause → List ℕ
clause_text names c = codes "(assert " ++ closed names c.vars (matrix_text names c) ++ codes ")\n"

-- the line that declares a predicate
abbrev pub declaration_text : Names → ℕ → PredDecl → List ℕ
declaration_text names p d =
    codes "(declare-fun " ++ symbol_text (name_at names.preds p) ++ codes " (" ++ joined (map (sort_text names.sig) d.sorts) ++ codes ") Bool)\n"

-- that line, if the predicate is live
abbrev pub live_text : Names → ℕ → PredDecl → List ℕ
live_text names p d = if d.live then declaration_text names p d else []

-- the lines that declare the live predicates, of which the first has the given number
abbrev pub declarations_text : Names → ℕ → List PredDecl → List ℕ
declarations_text names p [] = []
declarations_text names p (d ∷ ds) = live_text names p d ++ declarations_text names (p + 1) ds

-- the lines of a script: the groups of datatypes that the state reaches, the live predicates, and the clauses
abbrev pub lines_of_script : Names → StateView → List ℕ
lines_of_script names s =
    codes "(set-logic HORN)\n" ++ groups_text names.sig (state_reach s) 0 names.sig.groups ++ declarations_text names 0 s.preds ++ concat (map (clause_text names) s.clauses) ++ codes "(check-sat)\n"

-- the names of texts over the state: those of the predicates and of the definitions are given
abbrev pub names_over : StateView → List (List ℕ) → List (List ℕ) → List ℕ → Names
names_over s names calls prefix = record { sig = s.sig; preds = names; calls = calls; prefix = prefix }

-- the names of a script over the state, in which no definition is named
abbrev pub script_names : StateView → List (List ℕ) → List ℕ → Names
script_names s names prefix = names_over s names [] prefix

-- the text is the state's script, where its predicates have these names and those of helpers, and variables are named by
-- the prefix that the names in use leave
abbrev pub IsScriptText : StateView → List (List ℕ) → List ℕ → Type 0
IsScriptText s names text =
    (prefix : List ℕ) × (all : List (List ℕ)) × IsVariablePrefix (used_names s.sig names) prefix × NamesPredicates s names all
    × (text ≡ lines_of_script (script_names s all prefix) s)

-- the text is that of a term under so many variables over the state, with predicates and variables named as in the state's
-- script, and these definitions
abbrev pub IsTermText : StateView → List (List ℕ) → List (List ℕ) → ℕ → Term → List ℕ → Type 0
IsTermText s names calls under t text =
    (prefix : List ℕ) × (all : List (List ℕ)) × IsVariablePrefix (used_names s.sig names) prefix × NamesPredicates s names all
    × (text ≡ term_text (names_over s all calls prefix) t under)
