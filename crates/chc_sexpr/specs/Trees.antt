-- How deep trees are.
use Rattle.std.specs.Prelude.{ℕ, ◌+◌, List, [], ◌∷◌, map, max}
use Rattle.chc_sexpr.specs.declared.tree.Tree.{Tree}
use Rattle.chc_sexpr.specs.declared.tree.Tree.TheOpen.{Tree-F}
use Rattle.chc_sexpr.specs.declared.tree.Tree.TheFolds.{fold-Tree}

-- the largest of some numbers, or 0 where there are none
abbrev pub largest : List ℕ → ℕ
largest [] = 0
largest (n ∷ ns) = max n (largest ns)

-- a group is one deeper than the deepest of its own trees
abbrev pub depth_step : Tree-F ℕ → ℕ
depth_step (Tree-F.Symbol place bytes) = 0
depth_step (Tree-F.Word place bytes) = 0
depth_step (Tree-F.Keyword place bytes) = 0
depth_step (Tree-F.Numeral place number) = 0
depth_step (Tree-F.Text place bytes) = 0
depth_step (Tree-F.Other place bytes) = 0
depth_step (Tree-F.Group place inner) = largest inner + 1

-- how many groups stand within one another
abbrev pub depth : Tree → ℕ
depth = fold-Tree ℕ depth_step

-- the depth of the deepest of some trees
abbrev pub depth_all : List Tree → ℕ
depth_all trees = largest (map depth trees)

-- how many groups may stand within one another
abbrev pub most_open : ℕ
most_open = 1000
