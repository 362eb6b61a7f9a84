use Rattle.std.proofs.Common.{◌-◌, length}
use Rattle.chc_sexpr.proofs.Steps.{IsReadTo}
use Rattle.chc_sexpr.proofs.text.read_trees.Given as goal

abbrev pub invariant-loop-at : goal.invariant-loop-at
invariant-loop-at l = IsReadTo l.bytes l.at l.draft

abbrev pub decreases-loop-at : goal.decreases-loop-at
decreases-loop-at l = length l.bytes - l.at
