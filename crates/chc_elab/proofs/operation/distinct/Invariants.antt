use Rattle.std.proofs.Common.{◌≡◌, ◌++◌, drop}
use Rattle.chc_elab.specs.Building.{all_pairs, differ}
use Rattle.chc_elab.proofs.operation.distinct.Given as goal

abbrev pub invariant-loop-i : goal.invariant-loop-i
invariant-loop-i l = l.pile ++ all_pairs differ (drop l.i l.terms) ≡ all_pairs differ l.terms
