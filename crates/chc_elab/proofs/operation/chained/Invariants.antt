use Rattle.std.proofs.Common.{◌≡◌, ◌++◌, ◌-◌, drop}
use Rattle.chc_elab.specs.Building.{neighbours}
use Rattle.chc_elab.specs.Builds.{joins}
use Rattle.chc_elab.proofs.operation.chained.Given as goal

abbrev pub invariant-loop-i : goal.invariant-loop-i
invariant-loop-i l = l.pile ++ neighbours (joins l.joint) (drop (l.i - 1) l.terms) ≡ neighbours (joins l.joint) l.terms
