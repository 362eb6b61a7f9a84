use Rattle.std.proofs.Common.{◌≡◌, [], drop, true}
use Rattle.std.specs.List.{list_all}
use Rattle.chc_sorts.specs.Sorts.{sort_fits}
use Rattle.chc_script.specs.Commands.{sorts_after}
use Rattle.chc_script.proofs.whole.command.read_sorts.Given as goal

abbrev pub invariant-loop-tree : goal.invariant-loop-tree
invariant-loop-tree l = record {
  same : sorts_after l.sig l.sorts (drop l.tree-index l.trees) ≡ sorts_after l.sig [] l.trees;
  fitting : list_all (sort_fits l.sig) l.sorts ≡ true;
}
