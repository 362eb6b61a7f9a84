use Rattle.std.proofs.Common.{◌≡◌, [], drop}
use Rattle.chc_script.specs.Datatypes.{fields_after}
use Rattle.chc_script.proofs.whole.datatypes.read_fields.Given as goal

abbrev pub invariant-loop-tree : goal.invariant-loop-tree
invariant-loop-tree l = fields_after l.place l.fields (drop l.tree-index l.trees) ≡ fields_after l.place [] l.trees
