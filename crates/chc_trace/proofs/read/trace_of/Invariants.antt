use Rattle.std.proofs.Common.{◌≡◌, drop}
use Rattle.chc_trace.specs.declared.progress.Progress.TheVariants as progress
use Rattle.chc_trace.specs.Readings.{read_on}
use Rattle.chc_trace.proofs.read.trace_of.Given as goal

abbrev pub invariant-loop-tree : goal.invariant-loop-tree
invariant-loop-tree l = read_on l.length l.progress (drop l.tree-index l.trees) ≡ read_on l.length progress.Start l.trees
