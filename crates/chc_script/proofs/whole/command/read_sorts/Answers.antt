use Rattle.std.proofs.Common.{arith}
use Rattle.std.proofs.lemmas.Grind.{common_steps}
use Rattle.chc_script.proofs.SpelledPositions.{fitting_more}
use Rattle.chc_script.proofs.whole.command.read_sorts.Goals as goal

pub loop-tree-preserved : goal.loop-tree-preserved
loop-tree-preserved c = record {
  same = grind (arith, common_steps);
  fitting =
      rw c.in_ok-push.ensures.added
      (fitting_more c.args.sig.now c.loop-tree.sorts c.tree-item.result c.in_ok-sort_of_tree.field-0 c.loop-tree.invariant.fitting c.in_ok-sort_of_tree.ensures);
}
