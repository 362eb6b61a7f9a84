use Rattle.std.proofs.Common.{◌≡◌, drop}
use Rattle.chc_trace.specs.Numbers.{numbers_after, numbers_of}
use Rattle.chc_trace.proofs.shape.numbers_of.Given as goal

abbrev pub invariant-loop-tree : goal.invariant-loop-tree
invariant-loop-tree l = numbers_after l.numbers (drop l.tree-index l.trees) ≡ numbers_of l.trees
