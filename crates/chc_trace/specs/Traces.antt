-- The trees of a trace, its text, and what bytes say one.
use Rattle.std.specs.Prelude.{◌≡◌, ◌⊎◌, ℕ, List, [], ◌∷◌, ◌++◌, map, length, codes, Result, Ok, Err, ⊤}
use Rattle.std.specs.List.{concat, All}
use Rattle.hex.specs.Hex.{encode_lower, IsBytes}
use Rattle.chc_sexpr.specs.declared.fault.TextFault.{TextFault}
use Rattle.chc_sexpr.specs.declared.fault.TextErr.{TextErr}
use Rattle.chc_sexpr.specs.declared.fault.TextErr.TheVariants as text_err
use Rattle.chc_sexpr.specs.declared.tree.Tree.{Tree}
use Rattle.chc_sexpr.specs.declared.tree.Tree.TheVariants as tree
use Rattle.chc_sexpr.specs.Spelling.{Spells, SpellsNone, IsFirstFault}
use Rattle.chc_sexpr.specs.Writing.{tree_text, unplaced}
use Rattle.chc_state.specs.declared.step.Step.{Step}
use Rattle.chc_trace.specs.declared.trace.Trace.{Trace}
use Rattle.chc_trace.specs.Numbers.{number}
use Rattle.chc_trace.specs.Kinds.{word_of, parts_of, HasSmallNumbers}
use Rattle.chc_trace.specs.Places.{bad_form, place_of}

-- a group that begins with the symbol, with 0 for every place
abbrev pub form : List ℕ → List Tree → Tree
form name trees = tree.Group 0 (tree.Symbol 0 name ∷ trees)

-- the mark of a trace of the first version
abbrev pub mark_tree : Tree
mark_tree = form (codes "chc-trace") (number 1 ∷ [])

-- the source of that digest, in 64 hexadecimal digits of lower case
abbrev pub source_tree : List ℕ → Tree
source_tree digest = form (codes "source") (tree.Text 0 (encode_lower digest) ∷ [])

-- a step
abbrev pub step_tree : Step → Tree
step_tree x = form (codes "step") (tree.Symbol 0 (word_of x) ∷ parts_of x)

-- the text that the steps lead to
abbrev pub target_tree : List ℕ → Tree
target_tree text = form (codes "target") (tree.Text 0 text ∷ [])

-- the trees of a trace: its mark, the source, each step, and the target
abbrev pub trace_trees : Trace → List Tree
trace_trees t = mark_tree ∷ source_tree t.source ∷ map step_tree t.steps ++ target_tree t.target ∷ []

-- a tree on a line of its own
abbrev pub line : Tree → List ℕ
line t = tree_text t ++ codes "\n"

-- the text of a trace: its trees, each on a line
abbrev pub trace_lines : Trace → List ℕ
trace_lines t = concat (map line (trace_trees t))

-- 32 bytes
abbrev pub IsDigest : List ℕ → Type 0
IsDigest bytes = (length bytes ≡ 32) × IsBytes bytes

-- the trees, wherever they stand, are those of the trace, whose source is a digest and whose steps have numbers below 2^32
pub record AreTraceOf (trees : List Tree) (t : Trace) : Type 0 where
  pub alike : map unplaced trees ≡ trace_trees t
  pub digest : IsDigest t.source
  pub small : All HasSmallNumbers t.steps

-- the bytes say the trace
pub record SaysTrace (bytes : List ℕ) (t : Trace) : Type 0 where
  pub trees : List Tree
  pub spelled : Spells bytes trees
  pub stands : AreTraceOf trees t

-- the trees fit: those of some trace begin with them
pub record Fit (trees : List Tree) : Type 0 where
  pub more : List Tree
  pub t : Trace
  pub stands : AreTraceOf (trees ++ more) t

-- the place is that of the first tree that doesn't fit
pub record IsUnfit (trees : List Tree) (place : ℕ) : Type 0 where
  pub front : List Tree
  pub tree : Tree
  pub behind : List Tree
  pub whole : trees ≡ front ++ tree ∷ behind
  pub fits : Fit front
  pub unfit : Fit (front ++ tree ∷ []) → ⊥
  pub at : place ≡ place_of tree

-- the trees fit, but a tree is wanting behind them, and the place is the end of the text, which has that length
pub record IsWanting (trees : List Tree) (length place : ℕ) : Type 0 where
  pub fits : Fit trees
  pub short : (t : Trace) → AreTraceOf trees t → ⊥
  pub at : place ≡ length

-- the trees that the bytes spell are no trace, and the fault is at the first of them that doesn't fit, or at the end of the text
pub record HasBadForm (bytes : List ℕ) (fault : TextFault) : Type 0 where
  pub trees : List Tree
  pub spelled : Spells bytes trees
  pub place : ℕ
  pub stands : IsUnfit trees place ⊎ IsWanting trees (length bytes) place
  pub is : fault ≡ bad_form place

-- the first fault of bytes that say no trace: in their tokens and groups, or in the trees that they spell
abbrev pub IsTraceFault : List ℕ → TextFault → Type 0
IsTraceFault bytes fault = (SpellsNone bytes × IsFirstFault bytes fault) ⊎ HasBadForm bytes fault

-- the bytes say no trace
abbrev pub SaysNoTrace : List ℕ → Type 0
SaysNoTrace bytes = (t : Trace) → SaysTrace bytes t → ⊥

-- what a reading of bytes answers: the trace that they say, which is the only one; or, where they say none, their first fault,
-- which is the only one; it may always be refused memory
abbrev pub IsTraceReading : List ℕ → Result Trace TextErr → Type 0
IsTraceReading bytes (Ok t) = SaysTrace bytes t × ((u : Trace) → SaysTrace bytes u → t ≡ u)
IsTraceReading bytes (Err (text_err.At fault)) = SaysNoTrace bytes × IsTraceFault bytes fault × ((other : TextFault) → IsTraceFault bytes other → fault ≡ other)
IsTraceReading bytes (Err text_err.NoMemory) = ⊤

-- each reading of the bytes answers the trace, or is refused memory
abbrev pub IsReadAs : List ℕ → Trace → Type 0
IsReadAs bytes t = (answer : Result Trace TextErr) → IsTraceReading bytes answer → (answer ≡ Ok t) ⊎ (answer ≡ Err text_err.NoMemory)
