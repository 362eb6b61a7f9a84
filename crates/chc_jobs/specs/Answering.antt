-- What the bytes of an answer come to.
use Rattle.std.specs.Prelude.{◌≡◌, ◌⊎◌, ℕ, cond, List, [], ◌∷◌, Option, Some, None, Err, codes}
use Rattle.chc_sexpr.specs.declared.fault.TextFault.{TextFault}
use Rattle.chc_sexpr.specs.declared.fault.TextErr.{TextErr}
use Rattle.chc_sexpr.specs.declared.fault.TextErr.TheVariants as text_err
use Rattle.chc_sexpr.specs.declared.fault.Fault.TheVariants.{NotYet}
use Rattle.chc_sexpr.specs.declared.tree.Tree.{Tree, out-Tree}
use Rattle.chc_sexpr.specs.Shapes.{is_symbol}
use Rattle.chc_sexpr.specs.Spelling.{Spells}
use Rattle.chc_elab.specs.SortTrees.{place_at}
use Rattle.chc_state.specs.States.{StateView}
use Rattle.ans_model.specs.Answers.{IsModelReading}

-- the place of the first tree, where it is the symbol `unsat`
abbrev pub unsat_among : List Tree → Option ℕ
unsat_among [] = None
unsat_among (t ∷ ts) = cond (is_symbol (codes "unsat") t) (Some (place_at (out-Tree t))) None

-- the bytes spell trees, of which the first is the symbol `unsat` and stands at that place
pub record IsUnsat (answer : List ℕ) (place : ℕ) : Type 0 where
  pub trees : List Tree
  pub spelled : Spells answer trees
  pub begins : unsat_among trees ≡ Some place

-- the bytes spell no trees of which the first is the symbol `unsat`
abbrev pub IsNoUnsat : List ℕ → Type 0
IsNoUnsat answer = (place : ℕ) → IsUnsat answer place → ⊥

-- what looking for `unsat` in front of the bytes gives
abbrev pub FindsUnsat : List ℕ → Option ℕ → Type 0
FindsUnsat answer None = IsNoUnsat answer
FindsUnsat answer (Some place) = IsUnsat answer place

-- the fault of a form that this version doesn't read
abbrev pub not_yet : ℕ → TextFault
not_yet place = record { place = place; fault = NotYet; name = [] }

-- the fault of an answer that has this one as a model: refutations aren't read yet, so that an answer which begins with
-- `unsat` has the fault NotYet there
abbrev pub IsFaultOr : List ℕ → TextFault → TextFault → Type 0
IsFaultOr answer as_model fault =
    (IsUnsat answer fault.place × (fault ≡ not_yet fault.place)) ⊎ (IsNoUnsat answer × (fault ≡ as_model))

-- the bytes say no definitions for the state, and that is their fault
pub record IsNoAnswer (answer : List ℕ) (Z : StateView) (names : List (List ℕ)) (fault : TextFault) : Type 0 where
  pub as_model : TextFault
  pub reading : IsModelReading Z names answer (Err (text_err.At as_model))
  pub is : IsFaultOr answer as_model fault

-- what a refused reading of an answer comes to; want of memory says nothing
abbrev pub IsAnswerRefusal : List ℕ → StateView → List (List ℕ) → TextErr → Type 0
IsAnswerRefusal answer Z names (text_err.At fault) = IsNoAnswer answer Z names fault
IsAnswerRefusal answer Z names text_err.NoMemory = Unit {0}
