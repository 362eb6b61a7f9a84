use Rattle.chc_sexpr.proofs.Steps.{ends}
use Rattle.chc_sexpr.proofs.text.read_trees.Goals as goal

pub returns : goal.returns
returns c = ends c.args.bytes.now c.loop-at.at c.loop-at.draft c.loop-at-test.false c.loop-at.invariant c.finished.result c.finished.ensures
