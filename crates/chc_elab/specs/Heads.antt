-- The heads of groups that stand for applications.
use Rattle.std.specs.Prelude.{ℕ, ℤ, pos, cond, int_lt, List, [], ◌∷◌, take, drop, Option, Some, None, Ok, codes}
use Rattle.std.specs.Option.{option_map, option_or, option_and_then}
use Rattle.std.specs.Str.{bytes_eq}
use Rattle.chc_sorts.specs.declared.sort.Sort.{Sort}
use Rattle.chc_sorts.specs.declared.meaning.Meaning.{Meaning}
use Rattle.chc_sorts.specs.declared.meaning.Meaning.TheVariants as meaning
use Rattle.chc_sorts.specs.Signature.{Signature}
use Rattle.chc_sorts.specs.Names.{look_up}
use Rattle.chc_sorts.specs.Operators.{op_named}
use Rattle.chc_sorts.specs.Functions.{meaning_of}
use Rattle.chc_sexpr.specs.declared.tree.Tree.{Tree, out-Tree}
use Rattle.chc_sexpr.specs.declared.tree.Tree.TheOpen.{Tree-F}
use Rattle.chc_sexpr.specs.declared.fault.Fault.TheVariants.{BadCommand, UnknownName, NotSupported}
use Rattle.chc_sexpr.specs.Shapes.{symbol_of, word_of, is_symbol, pair_of}
use Rattle.chc_sexpr.specs.Writing.{tree_text}
use Rattle.chc_elab.specs.declared.head.Head.{Head}
use Rattle.chc_elab.specs.declared.head.Head.TheVariants as head
use Rattle.chc_elab.specs.Sites.{Setting, Reading, faulty, or_fault, ◌>>>◌}
use Rattle.chc_elab.specs.SortTrees.{place_at, sort_of_tree}

-- the constructor of a name
abbrev pub constructor_meant : Meaning → Option (ℕ × ℕ)
constructor_meant (meaning.Make d c) = Some (d, c)
constructor_meant (meaning.Get d c i) = None

abbrev pub constructor_named : Signature → List ℕ → Option (ℕ × ℕ)
constructor_named sig name = option_and_then constructor_meant (meaning_of sig name)

-- a constructor's or a selector's head
abbrev pub head_meant : Meaning → Head
head_meant (meaning.Make d c) = head.Make d c
head_meant (meaning.Get d c i) = head.Get d c i

-- the tester of a constructor
abbrev pub tester : ℕ × ℕ → Head
tester k = head.Is k.0 k.1

-- what follows `is-` in a name
abbrev pub tested_name : List ℕ → Option (List ℕ)
tested_name name = cond (bytes_eq (take 3 name) (codes "is-")) (Some (drop 3 name)) None

-- the head of a name: an operator, constructor, selector, predicate or definition, else the tester of a constructor
abbrev pub head_named : Setting → List ℕ → Option Head
head_named setting name =
    option_or (option_map (λ o. head.Operator o) (op_named name))
    (option_or (option_map head_meant (meaning_of setting.sig name))
    (option_or (option_map (λ s. head.Declared s) (look_up setting.symbols name))
    (option_map tester (option_and_then (constructor_named setting.sig) (tested_name name)))))

-- the head that is a symbol
abbrev pub symbol_head : Setting → ℕ → List ℕ → Reading Head
symbol_head setting place name = or_fault (faulty place UnknownName name) (head_named setting name)

-- a form that isn't read: its name is the text of the tree
abbrev pub unsupported : {A : Type 0} → Tree → Reading A
unsupported tree = faulty (place_at (out-Tree tree)) NotSupported (tree_text tree)

-- the constructor that a tree names
abbrev pub constructor_at : Signature → Tree → List ℕ → Reading (ℕ × ℕ)
constructor_at sig tree name = or_fault (faulty (place_at (out-Tree tree)) UnknownName name) (constructor_named sig name)

-- the number of a numeral above 0
abbrev pub positive_at : Tree-F Tree → Option ℤ
positive_at (Tree-F.Symbol place name) = None
positive_at (Tree-F.Word place word) = None
positive_at (Tree-F.Keyword place word) = None
positive_at (Tree-F.Numeral place n) = cond (int_lt (pos 0) n) (Some n) None
positive_at (Tree-F.Text place bytes) = None
positive_at (Tree-F.Other place token) = None
positive_at (Tree-F.Group place trees) = None

-- `(_ is c)`, where the tree is `(_ s t)`, s being the symbol of that name
abbrev pub tester_head : Setting → Tree → Tree → Option (List ℕ) → Reading Head
tester_head setting tree t None = unsupported tree
tester_head setting tree t (Some c) = constructor_at setting.sig t c >>> (λ k. Ok (tester k))

-- `(_ divisible n)`
abbrev pub divisible_head : Tree → Option ℤ → Reading Head
divisible_head tree n = or_fault (unsupported tree) (option_map (λ n. head.Divisible n) n)

-- the head of an indexed form `(_ s t)`
abbrev pub indexed_head : Setting → Tree → List Tree → Reading Head
indexed_head setting tree [] = unsupported tree
indexed_head setting tree (s ∷ []) = unsupported tree
indexed_head setting tree (s ∷ t ∷ []) =
    cond (is_symbol (codes "is") s) (tester_head setting tree t (symbol_of t))
    (cond (is_symbol (codes "divisible") s) (divisible_head tree (positive_at (out-Tree t))) (unsupported tree))
indexed_head setting tree (s ∷ t ∷ u ∷ more) = unsupported tree

-- the sort that the tree spells
abbrev pub sort_tree : Setting → Tree → Reading Sort
sort_tree setting tree = sort_of_tree setting.sig (place_at (out-Tree tree)) tree

-- the constructor of a name with the sort that `s` spells
abbrev pub of_sort : Setting → Tree → ℕ × ℕ → Reading Head
of_sort setting s k = sort_tree setting s >>> (λ sort. Ok (head.OfSort k.0 k.1 sort))

-- `(as const s)` where it is no constant array: `const` has to be a constructor
abbrev pub const_constructor : Setting → Tree → Tree → Reading Head
const_constructor setting tree s = or_fault (unsupported tree) (constructor_named setting.sig (codes "const")) >>> of_sort setting s

-- `(as c s)` for another name than `const`
abbrev pub named_constructor : Setting → Tree → List ℕ → Tree → Reading Head
named_constructor setting c name s = constructor_at setting.sig c name >>> of_sort setting s

-- `(as const s)` at the head of a group: a constant array where s is of the form `(Array ..)`
abbrev pub const_head : Setting → Tree → Tree → Option (Tree × Tree) → Reading Head
const_head setting tree s None = const_constructor setting tree s
const_head setting tree s (Some parts) = sort_tree setting s >>> (λ sort. Ok (head.Constant sort))

-- the head of a form `(as c s)`: as the head of a group, or alone
abbrev pub qualified : Setting → Tree → (Tree → Reading Head) → Tree → Tree → Option (List ℕ) → Reading Head
qualified setting tree on_const c s None = unsupported tree
qualified setting tree on_const c s (Some name) = cond (bytes_eq name (codes "const")) (on_const s) (named_constructor setting c name s)

abbrev pub qualified_head : Setting → Tree → (Tree → Reading Head) → List Tree → Reading Head
qualified_head setting tree on_const [] = unsupported tree
qualified_head setting tree on_const (c ∷ []) = unsupported tree
qualified_head setting tree on_const (c ∷ s ∷ []) = qualified setting tree on_const c s (symbol_of c)
qualified_head setting tree on_const (c ∷ s ∷ t ∷ more) = unsupported tree

-- a constant array where the sort is of the form `(Array ..)`, else a constructor
abbrev pub const_in_head : Setting → Tree → Tree → Reading Head
const_in_head setting tree s = const_head setting tree s (pair_of (codes "Array") s)

-- the head that is a group, in the group at the place
abbrev pub worded_head : Setting → ℕ → Tree → Option (List ℕ) → List Tree → Reading Head
worded_head setting place tree None args = faulty place BadCommand []
worded_head setting place tree (Some word) args =
    cond (bytes_eq word (codes "_")) (indexed_head setting tree args)
    (cond (bytes_eq word (codes "as")) (qualified_head setting tree (const_in_head setting tree) args) (faulty place BadCommand []))

abbrev pub group_head : Setting → ℕ → Tree → List Tree → Reading Head
group_head setting place tree [] = faulty place BadCommand []
group_head setting place tree (w ∷ args) = worded_head setting place tree (word_of w) args

-- a lone `(as c s)`
abbrev pub lone_qualified : Setting → Tree → List Tree → Reading Head
lone_qualified setting tree args = qualified_head setting tree (const_constructor setting tree) args
