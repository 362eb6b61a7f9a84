use Rattle.std.proofs.Common.{◌≡◌}
use Rattle.std.specs.Vec.Iter.{into_iter_items}
use Rattle.chc_elab.specs.Building.{joined_from, joined_left}
use Rattle.chc_elab.specs.Builds.{joins}
use Rattle.chc_elab.proofs.operation.joined_left.Given as goal

abbrev pub invariant-loop-term : goal.invariant-loop-term
invariant-loop-term l = joined_from (joins l.joint) l.joined (into_iter_items l.term-iterator) ≡ joined_left (joins l.joint) l.fn.terms
