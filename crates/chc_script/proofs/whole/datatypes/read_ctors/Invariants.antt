use Rattle.std.proofs.Common.{◌≡◌, [], drop}
use Rattle.chc_script.specs.Datatypes.{ctors_after}
use Rattle.chc_script.proofs.whole.datatypes.read_ctors.Given as goal

abbrev pub invariant-loop-tree : goal.invariant-loop-tree
invariant-loop-tree l = ctors_after l.place l.ctors (drop l.tree-index l.trees) ≡ ctors_after l.place [] l.trees
