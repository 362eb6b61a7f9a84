use Rattle.std.proofs.Common.{◌≡◌, max, drop}
use Rattle.chc_print.specs.Reach.{sorts_reach}
use Rattle.chc_print.proofs.reach.sorts_reach.Given as goal

abbrev pub invariant-loop-sort : goal.invariant-loop-sort
invariant-loop-sort l = max l.most (sorts_reach (drop l.sort-index l.sorts)) ≡ sorts_reach l.sorts
