-- The one spelling of a tree, and what it is read as.
use Rattle.std.specs.Prelude.{◌≡◌, ℕ, List, [], ◌∷◌, ◌++◌, codes}
use Rattle.std.specs.List.{Contains}
use Rattle.std.specs.Fmt.{signed_decimal}
use Rattle.chc_sexpr.specs.Spelling.{string_of, Spells}
use Rattle.chc_sexpr.specs.Symbols.{symbol_text}
use Rattle.chc_sexpr.specs.declared.tree.Tree.{Tree}
use Rattle.chc_sexpr.specs.declared.tree.Tree.TheOpen.{Tree-F}
use Rattle.chc_sexpr.specs.declared.tree.Tree.TheFolds.{fold-Tree}
use Rattle.chc_sexpr.specs.declared.tree.Tree.TheVariants as tree

-- the texts, with a space before each
abbrev pub spaced : List (List ℕ) → List ℕ
spaced [] = []
spaced (t ∷ ts) = codes " " ++ t ++ spaced ts

-- the texts, with a space between each two
abbrev pub joined : List (List ℕ) → List ℕ
joined [] = []
joined (t ∷ ts) = t ++ spaced ts

-- a token as it stands, a symbol in bars where it needs them, a number in decimal (one below 0, which no text spells,
-- with a minus in front), a string with each quote doubled, and a group as its trees with a space between each two
abbrev pub text_step : Tree-F (List ℕ) → List ℕ
text_step (Tree-F.Symbol place name) = symbol_text name
text_step (Tree-F.Word place word) = word
text_step (Tree-F.Keyword place word) = word
text_step (Tree-F.Numeral place number) = signed_decimal number
text_step (Tree-F.Text place bytes) = string_of bytes
text_step (Tree-F.Other place token) = token
text_step (Tree-F.Group place texts) = codes "(" ++ joined texts ++ codes ")"

-- the text that a tree is written as
abbrev pub tree_text : Tree → List ℕ
tree_text = fold-Tree (List ℕ) text_step

-- only a front of the text was added: the new text is the old one and that front
pub record AddsFront (text old new : List ℕ) : Type 0 where
  pub front : List ℕ
  pub rest : List ℕ
  pub whole : text ≡ front ++ rest
  pub added : new ≡ old ++ front

-- the same at each level of a tree, with 0 for its place
abbrev pub unplaced_step : Tree-F Tree → Tree
unplaced_step (Tree-F.Symbol place name) = tree.Symbol 0 name
unplaced_step (Tree-F.Word place word) = tree.Word 0 word
unplaced_step (Tree-F.Keyword place word) = tree.Keyword 0 word
unplaced_step (Tree-F.Numeral place number) = tree.Numeral 0 number
unplaced_step (Tree-F.Text place bytes) = tree.Text 0 bytes
unplaced_step (Tree-F.Other place token) = tree.Other 0 token
unplaced_step (Tree-F.Group place trees) = tree.Group 0 trees

-- a tree with 0 for every place in it
abbrev pub unplaced : Tree → Tree
unplaced = fold-Tree Tree unplaced_step

-- the text of a tree that some bytes spell is spelled by that tree again, up to places
abbrev pub AreReadAgain : Type 0
AreReadAgain = (bytes : List ℕ) (trees : List Tree) → Spells bytes trees → (tree : Tree) → Contains trees tree
    → (again : Tree) × Spells (tree_text tree) (again ∷ []) × (unplaced again ≡ unplaced tree)
