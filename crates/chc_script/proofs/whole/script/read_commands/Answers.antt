use Rattle.std.proofs.Common.{arith}
use Rattle.chc_elab.proofs.TreeCounts.{count_at}
use Rattle.chc_script.proofs.whole.script.read_commands.Goals as goal

pub command-requires-clause-few : goal.command-requires-clause-few
command-requires-clause-few c =
    let h = count_at c.args.trees.now c.loop-tree.tree-index c.tree-item.result (omega arith) c.tree-item.is in
    omega (arith, h, c.requires.few)
