-- Trees of a shape: what they are, and what is told of them.
use Rattle.std.proofs.Common.{◌≡◌, ◌∙◌, sym, ap, ℕ, ℤ, List, Some, int_lt, pos, false, true, Bool, cond, refl, None}
use Rattle.chc_sexpr.specs.declared.tree.Tree.{Tree, out-Tree, roll-Tree, roll-out-Tree}
use Rattle.chc_sexpr.specs.declared.tree.Tree.TheOpen.{Tree-F}
use Rattle.chc_sexpr.specs.declared.tree.Tree.TheVariants as tree
use Rattle.chc_sexpr.specs.Shapes.{symbol_at, symbol_of, word_at, word_of, group_at, group_of}
use Rattle.chc_elab.specs.Reads.{numeral_at}
use Rattle.chc_elab.proofs.Readings.{some_same, none_some}

pub symbol_of-Symbol : (place : ℕ) (name : List ℕ) → symbol_of (tree.Symbol place name) ≡ Some name
symbol_of-Symbol place name = ap symbol_at (tree.outs-Symbol place name)

pub word_of-Word : (place : ℕ) (word : List ℕ) → word_of (tree.Word place word) ≡ Some word
word_of-Word place word = ap word_at (tree.outs-Word place word)

pub group_of-Group : (place : ℕ) (trees : List Tree) → group_of (tree.Group place trees) ≡ Some trees
group_of-Group place trees = ap group_at (tree.outs-Group place trees)

pub numeral_of-Numeral : (place : ℕ) (n : ℤ) → int_lt n (pos 0) ≡ false → numeral_at (out-Tree (tree.Numeral place n)) ≡ Some n
numeral_of-Numeral place n above = ap numeral_at (tree.outs-Numeral place n) ∙ ap (λ b. cond b None (Some n)) above

symbol_level : (name : List ℕ) (y : Tree-F Tree) → symbol_at y ≡ Some name → (place : ℕ) × (roll-Tree y ≡ tree.Symbol place name)
symbol_level name (Tree-F.Symbol place other) h = (place, tree.rolls-Symbol place other ∙ ap (tree.Symbol place) (some_same other name h))
symbol_level name (Tree-F.Word place word) h = absurd (none_some name h)
symbol_level name (Tree-F.Keyword place word) h = absurd (none_some name h)
symbol_level name (Tree-F.Numeral place n) h = absurd (none_some name h)
symbol_level name (Tree-F.Text place bytes) h = absurd (none_some name h)
symbol_level name (Tree-F.Other place token) h = absurd (none_some name h)
symbol_level name (Tree-F.Group place trees) h = absurd (none_some name h)

pub is_Symbol : (t : Tree) (name : List ℕ) → symbol_of t ≡ Some name → (place : ℕ) × (t ≡ tree.Symbol place name)
is_Symbol t name h = let r = symbol_level name (out-Tree t) h in (r.0, sym (roll-out-Tree t) ∙ r.1)

word_level : (word : List ℕ) (y : Tree-F Tree) → word_at y ≡ Some word → (place : ℕ) × (roll-Tree y ≡ tree.Word place word)
word_level word (Tree-F.Symbol place name) h = absurd (none_some word h)
word_level word (Tree-F.Word place other) h = (place, tree.rolls-Word place other ∙ ap (tree.Word place) (some_same other word h))
word_level word (Tree-F.Keyword place other) h = absurd (none_some word h)
word_level word (Tree-F.Numeral place n) h = absurd (none_some word h)
word_level word (Tree-F.Text place bytes) h = absurd (none_some word h)
word_level word (Tree-F.Other place token) h = absurd (none_some word h)
word_level word (Tree-F.Group place trees) h = absurd (none_some word h)

pub is_Word : (t : Tree) (word : List ℕ) → word_of t ≡ Some word → (place : ℕ) × (t ≡ tree.Word place word)
is_Word t word h = let r = word_level word (out-Tree t) h in (r.0, sym (roll-out-Tree t) ∙ r.1)

group_level : (trees : List Tree) (y : Tree-F Tree) → group_at y ≡ Some trees → (place : ℕ) × (roll-Tree y ≡ tree.Group place trees)
group_level trees (Tree-F.Symbol place name) h = absurd (none_some trees h)
group_level trees (Tree-F.Word place word) h = absurd (none_some trees h)
group_level trees (Tree-F.Keyword place word) h = absurd (none_some trees h)
group_level trees (Tree-F.Numeral place n) h = absurd (none_some trees h)
group_level trees (Tree-F.Text place bytes) h = absurd (none_some trees h)
group_level trees (Tree-F.Other place token) h = absurd (none_some trees h)
group_level trees (Tree-F.Group place others) h = (place, tree.rolls-Group place others ∙ ap (tree.Group place) (some_same others trees h))

pub is_Group : (t : Tree) (trees : List Tree) → group_of t ≡ Some trees → (place : ℕ) × (t ≡ tree.Group place trees)
is_Group t trees h = let r = group_level trees (out-Tree t) h in (r.0, sym (roll-out-Tree t) ∙ r.1)

numeral_level : (n : ℤ) (y : Tree-F Tree) → numeral_at y ≡ Some n → (place : ℕ) × (int_lt n (pos 0) ≡ false) × (roll-Tree y ≡ tree.Numeral place n)
numeral_level n (Tree-F.Symbol place name) h = absurd (none_some n h)
numeral_level n (Tree-F.Word place word) h = absurd (none_some n h)
numeral_level n (Tree-F.Keyword place word) h = absurd (none_some n h)
numeral_level n (Tree-F.Numeral place m) h = by (int_lt m (pos 0)) refl h
  where
    by : (b : Bool) → int_lt m (pos 0) ≡ b → cond b None (Some m) ≡ Some n → (at : ℕ) × (int_lt n (pos 0) ≡ false) × (roll-Tree (Tree-F.Numeral place m) ≡ tree.Numeral at n)
    by true below g = absurd (none_some n g)
    by false above g =
        let same = some_same m n g in
        (place, ap (λ k. int_lt k (pos 0)) (sym same) ∙ above, tree.rolls-Numeral place m ∙ ap (tree.Numeral place) same)
numeral_level n (Tree-F.Text place bytes) h = absurd (none_some n h)
numeral_level n (Tree-F.Other place token) h = absurd (none_some n h)
numeral_level n (Tree-F.Group place trees) h = absurd (none_some n h)

pub is_Numeral : (t : Tree) (n : ℤ) → numeral_at (out-Tree t) ≡ Some n → (place : ℕ) × (int_lt n (pos 0) ≡ false) × (t ≡ tree.Numeral place n)
is_Numeral t n h = let (place, above, is) = numeral_level n (out-Tree t) h in (place, above, sym (roll-out-Tree t) ∙ is)
