use Rattle.std.proofs.Common.{◌≡◌, drop}
use Rattle.ans_model.specs.Forms.{all_fit}
use Rattle.ans_model.proofs.form.check_forms.Given as goal

abbrev pub invariant-loop-tree : goal.invariant-loop-tree
invariant-loop-tree l = all_fit (drop l.tree-index l.trees) ≡ all_fit l.trees
