-- The script that the trees of a text stand for, or its first fault.
use Rattle.std.specs.Prelude.{◌≡◌, ℕ, Bool, false, ◌||◌, cond, List, [], ◌∷◌, length, Option, Some, None, Result, Ok, Err, ⊤, ◌⊎◌, codes}
use Rattle.std.specs.Str.{bytes_eq}
use Rattle.chc_sexpr.specs.declared.tree.Tree.{Tree, out-Tree}
use Rattle.chc_sexpr.specs.declared.fault.TextFault.{TextFault}
use Rattle.chc_sexpr.specs.declared.fault.TextErr.{TextErr}
use Rattle.chc_sexpr.specs.declared.fault.TextErr.TheVariants as text_err
use Rattle.chc_sexpr.specs.declared.fault.Fault.TheVariants.{AfterCheck, NoCheck}
use Rattle.chc_sexpr.specs.Shapes.{form_of}
use Rattle.chc_sexpr.specs.Spelling.{Spells, SpellsNone, IsFirstFault}
use Rattle.chc_elab.specs.Sites.{Reading, faulty, ◌>>>◌}
use Rattle.chc_elab.specs.SortTrees.{place_at}
use Rattle.chc_script.specs.declared.whole.progress.Progress.{Progress}
use Rattle.chc_script.specs.declared.whole.progress.Progress.TheVariants as progress
use Rattle.chc_state.specs.Names.{AreNamesOf}
use Rattle.chc_script.specs.Scripts.{ScriptView}
use Rattle.chc_script.specs.Assertions.{KeepsAssertions}
use Rattle.chc_script.specs.Drafted.{SaysScript}
use Rattle.chc_script.specs.Drafts.{DraftView, fresh}
use Rattle.chc_script.specs.Commands.{bad, under_logic, set_logic, declare_fun, declare_const, declare_datatypes, declare_datatype, check_sat, unknown}
use Rattle.chc_script.specs.Asserts.{assert}

-- whether a command of that name has no effect
abbrev pub is_ignored : List ℕ → Bool
is_ignored name = bytes_eq name (codes "set-info") || bytes_eq name (codes "set-option")

-- a command that leaves a draft, with its name and its arguments
abbrev pub declaring : DraftView → ℕ → List ℕ → List Tree → Reading DraftView
declaring d place name args =
    cond (bytes_eq name (codes "declare-fun")) (declare_fun d place args)
    (cond (bytes_eq name (codes "declare-const")) (declare_const d place args)
    (cond (bytes_eq name (codes "declare-datatypes")) (declare_datatypes d place args)
    (cond (bytes_eq name (codes "declare-datatype")) (declare_datatype d place args) (unknown d place name))))

abbrev pub going_on : DraftView → ℕ → List ℕ → List Tree → Reading DraftView
going_on d place name args =
    cond (is_ignored name) (Ok d)
    (cond (bytes_eq name (codes "set-logic")) (set_logic d place args)
    (cond (bytes_eq name (codes "assert")) (assert d place args) (declaring d place name args)))

-- a command on a draft
abbrev pub command_named : DraftView → ℕ → List ℕ → List Tree → Reading Progress
command_named d place name args =
    cond (bytes_eq name (codes "check-sat")) (check_sat d place args >>> (λ X. Ok (progress.Ended X)))
    (going_on d place name args >>> (λ e. Ok (progress.Going e)))

abbrev pub command_at : DraftView → ℕ → Option (List ℕ × List Tree) → Reading Progress
command_at d place None = bad place
command_at d place (Some (name, args)) = command_named d place name args

-- whether a form may stand behind `(check-sat)`
abbrev pub may_follow : Option (List ℕ × List Tree) → Bool
may_follow None = false
may_follow (Some (name, args)) =
    bytes_eq name (codes "exit") || bytes_eq name (codes "get-model") || bytes_eq name (codes "get-proof") || bytes_eq name (codes "set-info")

-- a tree behind `(check-sat)`, which changes nothing
abbrev pub after_check : ScriptView → ℕ → Tree → Reading Progress
after_check X place tree = cond (may_follow (form_of tree)) (Ok (progress.Ended X)) (faulty place AfterCheck [])

-- the next tree
abbrev pub command : Progress → Tree → Reading Progress
command (progress.Going d) tree = command_at d (place_at (out-Tree tree)) (form_of tree)
command (progress.Ended X) tree = after_check X (place_at (out-Tree tree)) tree

-- the trees one after another
abbrev pub commands : Progress → List Tree → Reading Progress
commands p [] = Ok p
commands p (t ∷ ts) = command p t >>> (λ next. commands next ts)

-- a text that ends before `(check-sat)`
abbrev pub unfinished : DraftView → ℕ → Reading ScriptView
unfinished d place = under_logic d place >>> (λ _. faulty place NoCheck [])

-- the end of the text, which is at the place
abbrev pub at_end : ℕ → Progress → Reading ScriptView
at_end place (progress.Going d) = unfinished d place
at_end place (progress.Ended X) = Ok X

-- the script for which the trees of a text of that length stand, or its first fault
abbrev pub script_of : List Tree → ℕ → Reading ScriptView
script_of trees length = commands (progress.Going fresh) trees >>> at_end length

-- a script that was ended says its clauses by its assertions, has the names of its predicates, and keeps its assertions' truth
abbrev pub IsSound : Progress → Type 0
IsSound (progress.Going d) = ⊤
IsSound (progress.Ended X) = SaysScript X × AreNamesOf X.state X.names × KeepsAssertions X

-- what the trees that the bytes spell come to
pub record Says (bytes : List ℕ) (reading : Reading ScriptView) : Type 0 where
  pub trees : List Tree
  pub spelled : Spells bytes trees
  pub stands : script_of trees (length bytes) ≡ reading

-- the bytes stand for no script
abbrev pub SaysNoScript : List ℕ → Type 0
SaysNoScript bytes = (X : ScriptView) → Says bytes (Ok X) → ⊥

-- the first fault of a text: in its tokens and groups, or in its commands
abbrev pub IsScriptFault : List ℕ → TextFault → Type 0
IsScriptFault bytes fault = (SpellsNone bytes × IsFirstFault bytes fault) ⊎ Says bytes (Err fault)

-- what a reading of bytes answers: the script that they stand for, which is the only one; or, where they stand for none, their
-- first fault, which is the only one; it may always be refused memory
abbrev pub IsScriptReading : List ℕ → Result ScriptView TextErr → Type 0
IsScriptReading bytes (Ok X) = Says bytes (Ok X) × ((Y : ScriptView) → Says bytes (Ok Y) → X ≡ Y)
IsScriptReading bytes (Err (text_err.At fault)) =
    SaysNoScript bytes × IsScriptFault bytes fault × ((other : TextFault) → IsScriptFault bytes other → fault ≡ other)
IsScriptReading bytes (Err text_err.NoMemory) = ⊤
