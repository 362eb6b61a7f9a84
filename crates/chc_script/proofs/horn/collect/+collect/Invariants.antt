use Rattle.std.proofs.Common.{◌≡◌, ◌+◌, ◌*◌, drop}
use Rattle.chc_terms.specs.Counts.{size, size_all}
use Rattle.chc_script.specs.Horn.{each, readings}
use Rattle.chc_script.proofs.horn.collect.+collect.Given as goal

abbrev pub decreases-collect : goal.decreases-collect
decreases-collect l = 2 * size l.term.now

abbrev pub decreases-collect_each : goal.decreases-collect_each
decreases-collect_each l = 2 * size_all l.terms.now + 1

abbrev pub invariant-collect_each-loop-i : goal.invariant-collect_each-loop-i
invariant-collect_each-loop-i l = each (readings (drop l.i l.terms)) l.side l.found ≡ each (readings l.terms) l.side l.initial.found
