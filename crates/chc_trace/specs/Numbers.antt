-- Numbers in the trees of a trace.
use Rattle.std.specs.Prelude.{◌<◌, ◌^◌, ℕ, pos, negsuc, nat_lt, cond, List, [], ◌∷◌, ◌++◌, Option, Some, None}
use Rattle.std.specs.List.{All}
use Rattle.chc_sexpr.specs.declared.tree.Tree.{Tree, out-Tree}
use Rattle.chc_sexpr.specs.declared.tree.Tree.TheOpen.{Tree-F}
use Rattle.chc_sexpr.specs.declared.tree.Tree.TheVariants as tree
use Rattle.chc_sexpr.specs.Readings.{◌>>=◌}

-- the numeral of a number, with 0 for its place
abbrev pub number : ℕ → Tree
number n = tree.Numeral 0 (pos n)

-- numbers below 2^32
abbrev pub AreSmall : List ℕ → Type 0
AreSmall ns = All (λ n. n < 2 ^ 32) ns

-- the number of a level that is a numeral below 2^32
abbrev pub number_in : Tree-F Tree → Option ℕ
number_in (Tree-F.Symbol place name) = None
number_in (Tree-F.Word place word) = None
number_in (Tree-F.Keyword place word) = None
number_in (Tree-F.Numeral place (pos n)) = cond (nat_lt n (2 ^ 32)) (Some n) None
number_in (Tree-F.Numeral place (negsuc n)) = None
number_in (Tree-F.Text place bytes) = None
number_in (Tree-F.Other place token) = None
number_in (Tree-F.Group place trees) = None

-- the number of a tree that is a numeral below 2^32
abbrev pub number_of : Tree → Option ℕ
number_of tree = number_in (out-Tree tree)

-- the number of one tree alone
abbrev pub one_number : List Tree → Option ℕ
one_number [] = None
one_number (t ∷ []) = number_of t
one_number (t ∷ u ∷ us) = None

-- these numbers, and behind them those of the trees
abbrev pub numbers_after : List ℕ → List Tree → Option (List ℕ)
numbers_after made [] = Some made
numbers_after made (t ∷ ts) = number_of t >>= (λ n. numbers_after (made ++ n ∷ []) ts)

-- the numbers of trees, each of which is a numeral below 2^32
abbrev pub numbers_of : List Tree → Option (List ℕ)
numbers_of trees = numbers_after [] trees
