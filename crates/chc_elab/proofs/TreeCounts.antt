-- How many trees there are in groups and their parts.
use Rattle.std.proofs.Common.{◌≡◌, ◌<◌, ◌≤◌, ◌+◌, [], ◌∷◌, ℕ, ℤ, zero, suc, List, length, get_or, ap, sym, ◌∙◌, Some, None, arith}
use Rattle.chc_sexpr.proofs.Folds.{fold-Symbol, fold-Word, fold-Keyword, fold-Numeral, fold-Text, fold-Other, fold-Group, tree_ind}
use Rattle.chc_sexpr.specs.Counts.{count, count_step, count_all}
use Rattle.chc_sexpr.specs.Shapes.{group_at, group_of}
use Rattle.chc_sexpr.specs.declared.tree.Tree.{Tree}
use Rattle.chc_sexpr.specs.declared.tree.Tree.TheOpen.{Tree-F}
use Rattle.chc_sexpr.specs.declared.tree.Tree.TheVariants.{Symbol, Word, Keyword, Numeral, Text, Other, Group, outs-Symbol, outs-Word, outs-Keyword, outs-Numeral, outs-Text, outs-Other, outs-Group}

pub count-Group : (place : ℕ) (trees : List Tree) → count (Group place trees) ≡ count_all trees + 1
unfolding count
count-Group place trees = fold-Group ℕ count_step place trees

pub count-Symbol : (place : ℕ) (bytes : List ℕ) → count (Symbol place bytes) ≡ 1
unfolding count
count-Symbol place bytes = fold-Symbol ℕ count_step place bytes

pub count-Word : (place : ℕ) (bytes : List ℕ) → count (Word place bytes) ≡ 1
unfolding count
count-Word place bytes = fold-Word ℕ count_step place bytes

pub count-Keyword : (place : ℕ) (bytes : List ℕ) → count (Keyword place bytes) ≡ 1
unfolding count
count-Keyword place bytes = fold-Keyword ℕ count_step place bytes

pub count-Numeral : (place : ℕ) (number : ℤ) → count (Numeral place number) ≡ 1
unfolding count
count-Numeral place number = fold-Numeral ℕ count_step place number

pub count-Text : (place : ℕ) (bytes : List ℕ) → count (Text place bytes) ≡ 1
unfolding count
count-Text place bytes = fold-Text ℕ count_step place bytes

pub count-Other : (place : ℕ) (bytes : List ℕ) → count (Other place bytes) ≡ 1
unfolding count
count-Other place bytes = fold-Other ℕ count_step place bytes

count_leaf : (t : Tree) (y : Tree-F ℕ) → count t ≡ count_step y → 1 ≤ count_step y → 1 ≤ count t
count_leaf t y e some = omega arith

pub count_some : (t : Tree) → 1 ≤ count t
unfolding count
count_some = tree_ind (λ t. 1 ≤ count t) (record {
  symbol = λ place bytes. count_leaf (Symbol place bytes) (Tree-F.Symbol place bytes) (fold-Symbol ℕ count_step place bytes) (omega arith);
  word = λ place bytes. count_leaf (Word place bytes) (Tree-F.Word place bytes) (fold-Word ℕ count_step place bytes) (omega arith);
  keyword = λ place bytes. count_leaf (Keyword place bytes) (Tree-F.Keyword place bytes) (fold-Keyword ℕ count_step place bytes) (omega arith);
  numeral = λ place number. count_leaf (Numeral place number) (Tree-F.Numeral place number) (fold-Numeral ℕ count_step place number) (omega arith);
  text = λ place bytes. count_leaf (Text place bytes) (Tree-F.Text place bytes) (fold-Text ℕ count_step place bytes) (omega arith);
  other = λ place bytes. count_leaf (Other place bytes) (Tree-F.Other place bytes) (fold-Other ℕ count_step place bytes) (omega arith);
  group = λ place inner held. group_some place inner;
})
  where
    group_some : (place : ℕ) (inner : List Tree) → 1 ≤ count (Group place inner)
    group_some place inner = let e = count-Group place inner in omega arith

-- a tree among others is made of no more trees than they
pub count_at : (trees : List Tree) (i : ℕ) (t : Tree) → i < length trees → t ≡ get_or trees i t → count t ≤ count_all trees
count_at [] i t lt e = absurd (omega arith)
count_at (x ∷ xs) zero t lt e = let same = ap count e in omega arith
count_at (x ∷ xs) (suc i) t lt e = let rest = count_at xs i t (omega arith) e in omega arith

-- and so are two
pub count_two : (trees : List Tree) (s t : Tree) → 2 < length trees → s ≡ get_or trees 1 s → t ≡ get_or trees 2 t → count s + count t ≤ count_all trees
count_two [] s t lt e f = absurd (omega arith)
count_two (a ∷ []) s t lt e f = absurd (omega arith)
count_two (a ∷ b ∷ rest) s t lt e f =
    let first = ap count e in
    let second = count_at rest 0 t (omega arith) f in
    omega arith

-- there are at least as many as stand side by side
pub count_length : (trees : List Tree) → length trees ≤ count_all trees
count_length [] = omega arith
count_length (t ∷ ts) = let some = count_some t in let rest = count_length ts in omega arith

inner_none : (t : Tree) (inner : List Tree) → group_of t ≡ None → group_of t ≡ Some inner → count_all inner + 1 ≤ count t
inner_none t inner none h = absurd (differ (sym none ∙ h))
  where
    differ : None ≡ Some inner → ⊥
    differ e = cc

inner_group : (place : ℕ) (ts inner : List Tree) → group_of (Group place ts) ≡ Some inner → count_all inner + 1 ≤ count (Group place ts)
inner_group place ts inner h =
    let e = count-Group place ts in
    let opened : Some ts ≡ Some inner = sym (ap group_at (outs-Group place ts)) ∙ h in
    let same : ts ≡ inner = cc in
    let all : count_all ts ≡ count_all inner = ap (λ l. count_all l) same in
    omega arith

-- the trees in a group are fewer than those that it is made of
pub count_inner : (t : Tree) (inner : List Tree) → group_of t ≡ Some inner → count_all inner + 1 ≤ count t
count_inner = tree_ind (λ t. (inner : List Tree) → group_of t ≡ Some inner → count_all inner + 1 ≤ count t) (record {
  symbol = λ place bytes inner h. inner_none (Symbol place bytes) inner (ap group_at (outs-Symbol place bytes)) h;
  word = λ place bytes inner h. inner_none (Word place bytes) inner (ap group_at (outs-Word place bytes)) h;
  keyword = λ place bytes inner h. inner_none (Keyword place bytes) inner (ap group_at (outs-Keyword place bytes)) h;
  numeral = λ place number inner h. inner_none (Numeral place number) inner (ap group_at (outs-Numeral place number)) h;
  text = λ place bytes inner h. inner_none (Text place bytes) inner (ap group_at (outs-Text place bytes)) h;
  other = λ place bytes inner h. inner_none (Other place bytes) inner (ap group_at (outs-Other place bytes)) h;
  group = λ place ts held inner h. inner_group place ts inner h;
})

-- the equations of counts
pub ruleset tree_counts = (count-Symbol, count-Word, count-Keyword, count-Numeral, count-Text, count-Other, count-Group)
