-- How many trees there are.
use Rattle.std.specs.Prelude.{ℕ, ◌+◌, List, [], ◌∷◌, map}
use Rattle.chc_sexpr.specs.declared.tree.Tree.{Tree}
use Rattle.chc_sexpr.specs.declared.tree.Tree.TheOpen.{Tree-F}
use Rattle.chc_sexpr.specs.declared.tree.Tree.TheFolds.{fold-Tree}

-- all the numbers together
abbrev pub together : List ℕ → ℕ
together [] = 0
together (n ∷ ns) = n + together ns

abbrev pub count_step : Tree-F ℕ → ℕ
count_step (Tree-F.Symbol place name) = 1
count_step (Tree-F.Word place word) = 1
count_step (Tree-F.Keyword place word) = 1
count_step (Tree-F.Numeral place number) = 1
count_step (Tree-F.Text place bytes) = 1
count_step (Tree-F.Other place bytes) = 1
count_step (Tree-F.Group place counts) = together counts + 1

-- how many trees a tree is made of, itself among them
unfoldable pub count : Tree → ℕ
count = fold-Tree ℕ count_step

-- how many trees these are made of
abbrev pub count_all : List Tree → ℕ
count_all trees = together (map count trees)
