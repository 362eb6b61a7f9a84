-- The shapes of trees: symbols, groups, and forms, which are groups headed by a symbol.
use Rattle.std.specs.Prelude.{ℕ, Bool, false, cond, List, [], ◌∷◌, Option, Some, None}
use Rattle.std.specs.Option.{option_map}
use Rattle.std.specs.Str.{bytes_eq}
use Rattle.chc_sexpr.specs.declared.tree.Tree.{Tree, out-Tree}
use Rattle.chc_sexpr.specs.declared.tree.Tree.TheOpen.{Tree-F}

-- the name at a level that is a symbol
abbrev pub symbol_at : Tree-F Tree → Option (List ℕ)
symbol_at (Tree-F.Symbol place name) = Some name
symbol_at (Tree-F.Word place word) = None
symbol_at (Tree-F.Keyword place word) = None
symbol_at (Tree-F.Numeral place number) = None
symbol_at (Tree-F.Text place bytes) = None
symbol_at (Tree-F.Other place bytes) = None
symbol_at (Tree-F.Group place trees) = None

-- the name of a symbol
abbrev pub symbol_of : Tree → Option (List ℕ)
symbol_of tree = symbol_at (out-Tree tree)

-- the word at a level that is a reserved word
abbrev pub word_at : Tree-F Tree → Option (List ℕ)
word_at (Tree-F.Symbol place name) = None
word_at (Tree-F.Word place word) = Some word
word_at (Tree-F.Keyword place word) = None
word_at (Tree-F.Numeral place number) = None
word_at (Tree-F.Text place bytes) = None
word_at (Tree-F.Other place bytes) = None
word_at (Tree-F.Group place trees) = None

-- a reserved word
abbrev pub word_of : Tree → Option (List ℕ)
word_of tree = word_at (out-Tree tree)

-- the trees at a level that is a group
abbrev pub group_at : Tree-F Tree → Option (List Tree)
group_at (Tree-F.Symbol place name) = None
group_at (Tree-F.Word place word) = None
group_at (Tree-F.Keyword place word) = None
group_at (Tree-F.Numeral place number) = None
group_at (Tree-F.Text place bytes) = None
group_at (Tree-F.Other place bytes) = None
group_at (Tree-F.Group place trees) = Some trees

-- the trees of a group
abbrev pub group_of : Tree → Option (List Tree)
group_of tree = group_at (out-Tree tree)

-- whether there is a name, and it is that one
abbrev pub is_name : List ℕ → Option (List ℕ) → Bool
is_name name None = false
is_name name (Some other) = bytes_eq other name

-- whether the tree is the symbol of that name
abbrev pub is_symbol : List ℕ → Tree → Bool
is_symbol name tree = is_name name (symbol_of tree)

-- whether the tree is that reserved word
abbrev pub is_word : List ℕ → Tree → Bool
is_word word tree = is_name word (word_of tree)

-- the name and the rest of trees that begin with a symbol
abbrev pub form_at : Option (List Tree) → Option (List ℕ × List Tree)
form_at None = None
form_at (Some []) = None
form_at (Some (head ∷ args)) = option_map (λ name. (name, args)) (symbol_of head)

-- the name and the arguments of a form, which is a group headed by a symbol
abbrev pub form_of : Tree → Option (List ℕ × List Tree)
form_of tree = form_at (group_of tree)

-- the arguments, where there are two and the name is that one
abbrev pub pair_at : List ℕ → Option (List ℕ × List Tree) → Option (Tree × Tree)
pair_at name None = None
pair_at name (Some (head, [])) = None
pair_at name (Some (head, s ∷ [])) = None
pair_at name (Some (head, s ∷ t ∷ [])) = cond (bytes_eq head name) (Some (s, t)) None
pair_at name (Some (head, s ∷ t ∷ u ∷ more)) = None

-- the two arguments of a form of that name
abbrev pub pair_of : List ℕ → Tree → Option (Tree × Tree)
pair_of name tree = pair_at name (form_of tree)
