use Rattle.std.proofs.Common.{◌≡◌, drop}
use Rattle.chc_script.specs.declared.whole.progress.Progress.TheVariants as progress
use Rattle.chc_script.specs.Drafts.{fresh}
use Rattle.chc_script.specs.WholeScripts.{IsSound, commands}
use Rattle.chc_script.proofs.whole.script.read_commands.Given as goal

abbrev pub invariant-loop-tree : goal.invariant-loop-tree
invariant-loop-tree l = record {
  same : commands l.progress (drop l.tree-index l.trees) ≡ commands (progress.Going fresh) l.trees;
  sound : IsSound l.progress;
}
