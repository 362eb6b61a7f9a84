use Rattle.std.proofs.Common.{◌≡◌, ◌++◌, map, drop}
use Rattle.chc_elab.specs.Building.{differ}
use Rattle.chc_elab.proofs.operation.add_differences.Given as goal

abbrev pub invariant-loop-other : goal.invariant-loop-other
invariant-loop-other l = l.pile ++ map (differ l.term) (drop l.other-index l.others) ≡ l.initial.pile ++ map (differ l.term) l.others
