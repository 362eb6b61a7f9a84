-- The kinds of steps: for each the word that names it and the trees that stand behind the word, and how these trees are read.
use Rattle.std.specs.Prelude.{◌<◌, ◌^◌, ℕ, cond, List, [], ◌∷◌, map, codes, Option, None}
use Rattle.std.specs.Option.{option_map}
use Rattle.std.specs.Str.{bytes_eq}
use Rattle.chc_sexpr.specs.declared.tree.Tree.{Tree}
use Rattle.chc_state.specs.declared.step.Step.{Step}
use Rattle.chc_state.specs.declared.step.Step.TheVariants as step
use Rattle.chc_trace.specs.Numbers.{number, AreSmall, one_number, numbers_of}

-- the word of the step's kind
abbrev pub word_of : Step → List ℕ
word_of (step.Void k) = codes "void"
word_of (step.Unreached ps) = codes "unreached"
word_of (step.Unneeded ps) = codes "unneeded"

-- the trees behind the word
abbrev pub parts_of : Step → List Tree
parts_of (step.Void k) = number k ∷ []
parts_of (step.Unreached ps) = map number ps
parts_of (step.Unneeded ps) = map number ps

-- the numbers in them are below 2^32
abbrev pub HasSmallNumbers : Step → Type 0
HasSmallNumbers (step.Void k) = k < 2 ^ 32
HasSmallNumbers (step.Unreached ps) = AreSmall ps
HasSmallNumbers (step.Unneeded ps) = AreSmall ps

-- a kind: its word, and the step that the trees behind the word tell
pub record Kind : Type 0 where
  pub word : List ℕ
  pub read : List Tree → Option Step

-- the kinds that are read
abbrev pub kinds : List Kind
kinds =
    record { word = codes "void"; read = λ trees. option_map step.Void (one_number trees) }
    ∷ record { word = codes "unreached"; read = λ trees. option_map step.Unreached (numbers_of trees) }
    ∷ record { word = codes "unneeded"; read = λ trees. option_map step.Unneeded (numbers_of trees) }
    ∷ []

-- the step of the kind of that word, if it is one of these
abbrev pub told_by : List Kind → List ℕ → List Tree → Option Step
told_by [] word trees = None
told_by (k ∷ ks) word trees = cond (bytes_eq word k.word) (k.read trees) (told_by ks word trees)
