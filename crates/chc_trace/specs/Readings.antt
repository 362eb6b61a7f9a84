-- How the trees of a text are taken one after another, until they are a trace or one doesn't fit.
use Rattle.std.specs.Prelude.{◌==◌, ℕ, Bool, false, cond, List, [], ◌∷◌, ◌++◌, codes, Option, Some, None, Result, Ok, Err}
use Rattle.std.specs.Option.{option_map, option_or}
use Rattle.std.specs.Str.{bytes_eq}
use Rattle.hex.specs.Hex.{encode_lower, decode_sized}
use Rattle.hex.specs.declared.error.FromHexError.{FromHexError}
use Rattle.chc_sexpr.specs.declared.tree.Tree.{Tree, out-Tree}
use Rattle.chc_sexpr.specs.declared.tree.Tree.TheOpen.{Tree-F}
use Rattle.chc_sexpr.specs.Readings.{◌>>=◌}
use Rattle.chc_sexpr.specs.Shapes.{symbol_of, form_of}
use Rattle.chc_state.specs.declared.step.Step.{Step}
use Rattle.chc_trace.specs.declared.progress.Progress.{Progress}
use Rattle.chc_trace.specs.declared.progress.Progress.TheVariants as progress
use Rattle.chc_trace.specs.declared.trace.Trace.{Trace}
use Rattle.chc_trace.specs.Numbers.{one_number}
use Rattle.chc_trace.specs.Kinds.{kinds, told_by}
use Rattle.chc_trace.specs.Places.{Reading, bad_form, place_of, wanted_at, ◌>>>◌}

-- the bytes of a level that is a string
abbrev pub string_in : Tree-F Tree → Option (List ℕ)
string_in (Tree-F.Symbol place name) = None
string_in (Tree-F.Word place word) = None
string_in (Tree-F.Keyword place word) = None
string_in (Tree-F.Numeral place number) = None
string_in (Tree-F.Text place bytes) = Some bytes
string_in (Tree-F.Other place token) = None
string_in (Tree-F.Group place trees) = None

-- the bytes of one tree alone that is a string
abbrev pub only_string : List Tree → Option (List ℕ)
only_string [] = None
only_string (t ∷ []) = string_in (out-Tree t)
only_string (t ∷ u ∷ us) = None

-- what stands behind the name, if it is that one
abbrev pub behind : List ℕ → Option (List ℕ × List Tree) → Option (List Tree)
behind name None = None
behind name (Some (head, trees)) = cond (bytes_eq head name) (Some trees) None

-- what stands behind the symbol of that name in a group that begins with it
abbrev pub behind_name : List ℕ → Tree → Option (List Tree)
behind_name name tree = behind name (form_of tree)

-- the string that stands alone behind it
abbrev pub string_behind : List ℕ → Tree → Option (List ℕ)
string_behind name tree = behind_name name tree >>= only_string

-- whether there is a number, and it is 1
abbrev pub is_one : Option ℕ → Bool
is_one None = false
is_one (Some n) = n == 1

-- whether the tree is the mark of a trace of the first version
abbrev pub is_mark : Tree → Bool
is_mark tree = is_one (behind_name (codes "chc-trace") tree >>= one_number)

-- the decoded digits, if they are written as they would be again
abbrev pub if_written : List ℕ → Result (List ℕ) FromHexError → Option (List ℕ)
if_written digits (Ok bytes) = cond (bytes_eq (encode_lower bytes) digits) (Some bytes) None
if_written digits (Err fault) = None

-- the 32 bytes of 64 hexadecimal digits, lower case
abbrev pub digest_of : List ℕ → Option (List ℕ)
digest_of digits = if_written digits (decode_sized digits 32)

-- the digest of the source
abbrev pub source_of : Tree → Option (List ℕ)
source_of tree = string_behind (codes "source") tree >>= digest_of

-- the text that the steps lead to
abbrev pub target_of : Tree → Option (List ℕ)
target_of tree = string_behind (codes "target") tree

-- the step that the trees tell, of which the first is the symbol of its kind
abbrev pub step_in : List Tree → Option Step
step_in [] = None
step_in (kind ∷ parts) = symbol_of kind >>= (λ word. told_by kinds word parts)

-- the step that a tree is
abbrev pub step_of : Tree → Option Step
step_of tree = behind_name (codes "step") tree >>= step_in

-- with one more step
abbrev pub with_step : List ℕ → List Step → Step → Progress
with_step source steps x = progress.Stepping source (steps ++ x ∷ [])

-- with the target
abbrev pub with_target : List ℕ → List Step → List ℕ → Progress
with_target source steps text = progress.Ended (record { source = source; steps = steps; target = text })

-- how far the trees are taken with this one, if it fits
abbrev pub taken : Progress → Tree → Option Progress
taken progress.Start tree = cond (is_mark tree) (Some progress.Marked) None
taken progress.Marked tree = option_map (λ source. progress.Stepping source []) (source_of tree)
taken (progress.Stepping source steps) tree =
    option_or (option_map (with_step source steps) (step_of tree)) (option_map (with_target source steps) (target_of tree))
taken (progress.Ended t) tree = None

-- the trace at the end of a text of that length
abbrev pub at_end : ℕ → Progress → Reading Trace
at_end length progress.Start = Err (bad_form length)
at_end length progress.Marked = Err (bad_form length)
at_end length (progress.Stepping source steps) = Err (bad_form length)
at_end length (progress.Ended t) = Ok t

-- the trace that the trees come to, from so far on, or the first that doesn't fit
abbrev pub read_on : ℕ → Progress → List Tree → Reading Trace
read_on length p [] = at_end length p
read_on length p (t ∷ ts) = wanted_at (place_of t) (taken p t) >>> (λ q. read_on length q ts)
