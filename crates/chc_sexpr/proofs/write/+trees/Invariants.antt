use Rattle.std.proofs.Common.{◌≡◌, ◌≤◌, ◌++◌, length, drop, map}
use Rattle.chc_sexpr.specs.Writing.{spaced, joined, tree_text}
use Rattle.chc_sexpr.proofs.write.+trees.Given as goal

abbrev pub invariant-write_trees-loop-tree : goal.invariant-write_trees-loop-tree
invariant-write_trees-loop-tree l =
    (length l.fn.out ≤ length l.out) × (l.out ++ spaced (map tree_text (drop l.tree-index l.rest)) ≡ l.fn.out ++ joined (map tree_text l.fn.trees))
