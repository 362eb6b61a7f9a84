use Rattle.std.proofs.Common.{◌≡◌, drop}
use Rattle.chc_elab.specs.Binders.{are_pairs}
use Rattle.ans_model.proofs.form.are_pairs.Given as goal

abbrev pub invariant-loop-tree : goal.invariant-loop-tree
invariant-loop-tree l = are_pairs (drop l.tree-index l.trees) ≡ are_pairs l.trees
