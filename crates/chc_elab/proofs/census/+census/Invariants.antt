use Rattle.std.proofs.Common.{◌≡◌, ◌≤◌, ◌+◌, ◌-◌, ◌^◌, min, drop}
use Rattle.chc_sexpr.specs.Counts.{count_all}
use Rattle.chc_elab.proofs.census.+census.Given as goal

abbrev pub invariant-trees_in_all-loop-tree : goal.invariant-trees_in_all-loop-tree
invariant-trees_in_all-loop-tree l = (l.sum ≤ 2 ^ 64 - 1) × (min (l.sum + count_all (drop l.tree-index l.trees)) (2 ^ 64 - 1) ≡ min (count_all l.trees) (2 ^ 64 - 1))
