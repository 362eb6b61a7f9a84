use Rattle.chc_trace.proofs.FirstUnfit.{answer_of_trees}
use Rattle.chc_trace.proofs.read.read_trace.Goals as goal

pub returns : goal.returns
returns c = answer_of_trees c.args.bytes.now c.in_ok-trees.trees c.in_ok-trees.ensures.0 c.in_ok-trees.ensures.1 c.trace_of.result (rw (← c.as_slice.ensures) c.trace_of.ensures)
