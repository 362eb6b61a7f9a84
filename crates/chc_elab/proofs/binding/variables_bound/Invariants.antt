use Rattle.std.proofs.Common.{◌≡◌, ◌++◌, ◌+◌, drop}
use Rattle.chc_elab.proofs.BinderSteps.{variables_of}
use Rattle.chc_elab.proofs.binding.variables_bound.Given as goal

abbrev pub invariant-loop-sort : goal.invariant-loop-sort
invariant-loop-sort l = record {
  number : l.number ≡ l.variables + l.sort-index;
  made : l.bounds ++ variables_of l.number (drop l.sort-index l.sorts) ≡ variables_of l.variables l.sorts;
}
