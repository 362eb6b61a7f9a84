-- The definitions that the trees of a text stand for, or its first fault.
use Rattle.std.specs.Prelude.{◌≡◌, ℕ, cond, List, [], ◌∷◌, length, Option, Some, None, Result, Ok, Err, ⊤, ◌⊎◌, codes}
use Rattle.chc_sexpr.specs.declared.tree.Tree.{Tree, out-Tree}
use Rattle.chc_sexpr.specs.declared.fault.TextFault.{TextFault}
use Rattle.chc_sexpr.specs.declared.fault.TextErr.{TextErr}
use Rattle.chc_sexpr.specs.declared.fault.TextErr.TheVariants as text_err
use Rattle.chc_sexpr.specs.declared.fault.Fault.TheVariants.{BadForm, NotAnswer}
use Rattle.chc_sexpr.specs.Shapes.{group_of, is_symbol}
use Rattle.chc_sexpr.specs.Spelling.{Spells, SpellsNone, IsFirstFault}
use Rattle.chc_elab.specs.Sites.{Reading, faulty, ◌>>>◌}
use Rattle.chc_elab.specs.SortTrees.{place_at}
use Rattle.chc_print.specs.Helpers.{NamesPredicates}
use Rattle.chc_state.specs.declared.defs.Def.{Def}
use Rattle.chc_state.specs.declared.defs.Defs.{Defs}
use Rattle.chc_state.specs.States.{StateView}
use Rattle.ans_model.specs.declared.draft.Draft.{Draft}
use Rattle.ans_model.specs.Defining.{new_name, definition}
use Rattle.ans_model.specs.Drafts.{TargetView, setting, fresh, owner, placed, finished}
use Rattle.ans_model.specs.Forms.{FormView, definition_form, misfit, all_fit, nothing_more, without_model, not_sat}

module _ (target : TargetView) where
  -- with the definition of a form at the place: its name first, then what it says, then whose it is
  abbrev pub defined : Draft → ℕ → FormView → Reading Draft
  defined d place f =
      new_name (setting target d) place f.name >>> (λ _.
      definition (setting target d) place f >>> (λ def.
      placed target d place f.name def (owner target f.name)))

  abbrev pub defined_by : Draft → Tree → Option FormView → Reading Draft
  defined_by d tree None = misfit tree
  defined_by d tree (Some f) = defined d (place_at (out-Tree tree)) f

  -- with the definitions of the trees, one after another
  abbrev pub all_defined : Draft → List Tree → Reading Draft
  all_defined d [] = Ok d
  all_defined d (t ∷ ts) = defined_by d t (definition_form t) >>> (λ next. all_defined next ts)

  -- the definitions of the trees, in a text of that length
  abbrev pub definitions : ℕ → List Tree → Reading Defs
  definitions length trees = all_defined (fresh target) trees >>> finished target length

  -- the group of definitions, and the trees behind it: their forms first
  abbrev pub in_group : ℕ → List Tree → List Tree → Reading Defs
  in_group length inner more = all_fit inner >>> (λ _. nothing_more more >>> (λ _. definitions length inner))

  abbrev pub grouped : ℕ → Tree → Option (List Tree) → List Tree → Reading Defs
  grouped length tree None more = misfit tree
  grouped length tree (Some inner) more = in_group length (without_model inner) more

  -- the trees behind `sat`
  abbrev pub behind_sat : ℕ → List Tree → Reading Defs
  behind_sat length [] = faulty length BadForm []
  behind_sat length (group ∷ more) = grouped length group (group_of group) more

  -- the trees of a text of that length: the symbol `sat`, a group of definitions, and nothing more
  abbrev pub answer_of : ℕ → List Tree → Reading Defs
  answer_of length [] = faulty 0 NotAnswer []
  answer_of length (first ∷ more) = cond (is_symbol (codes "sat") first) (behind_sat length more) (not_sat first)

-- what the trees that the bytes spell come to, for a state with these names of its script's predicates
pub record Says (s : StateView) (names : List (List ℕ)) (bytes : List ℕ) (reading : Reading Defs) : Type 0 where
  pub trees : List Tree
  pub all : List (List ℕ)
  pub spelled : Spells bytes trees
  pub named : NamesPredicates s names all
  pub stands : answer_of (record { state = s; names = all }) (length bytes) trees ≡ reading

-- the bytes say no definitions for the state
abbrev pub SaysNoModel : StateView → List (List ℕ) → List ℕ → Type 0
SaysNoModel s names bytes = (d : Defs) → Says s names bytes (Ok d) → ⊥

-- the first fault of a text: in its tokens and groups, or in its definitions
abbrev pub IsAnswerFault : StateView → List (List ℕ) → List ℕ → TextFault → Type 0
IsAnswerFault s names bytes fault = (SpellsNone bytes × IsFirstFault bytes fault) ⊎ Says s names bytes (Err fault)

-- what a reading of bytes answers: the definitions that they say, and no others; or, where they say none, their first fault,
-- which is the only one; it may always be refused memory
abbrev pub IsModelReading : StateView → List (List ℕ) → List ℕ → Result Defs TextErr → Type 0
IsModelReading s names bytes (Ok d) = Says s names bytes (Ok d) × ((other : Defs) → Says s names bytes (Ok other) → d ≡ other)
IsModelReading s names bytes (Err (text_err.At fault)) =
    SaysNoModel s names bytes × IsAnswerFault s names bytes fault × ((other : TextFault) → IsAnswerFault s names bytes other → fault ≡ other)
IsModelReading s names bytes (Err text_err.NoMemory) = ⊤
