use Rattle.std.proofs.Common.{◌≡◌, drop}
use Rattle.chc_terms.specs.Sorted.{are_declared}
use Rattle.chc_terms.proofs.declared.are_declared.Given as goal

abbrev pub invariant-loop-sort : goal.invariant-loop-sort
invariant-loop-sort l = are_declared l.sig (drop l.sort-index l.sort-items) ≡ are_declared l.sig l.sorts
