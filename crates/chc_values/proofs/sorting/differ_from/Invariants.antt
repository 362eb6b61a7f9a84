use Rattle.std.proofs.Common.{◌≢◌, ℤ, All, take}
use Rattle.chc_values.specs.declared.value.Value.{Value}
use Rattle.chc_values.proofs.sorting.differ_from.Given as goal

abbrev pub invariant-loop-entry : goal.invariant-loop-entry
invariant-loop-entry l = All (λ (e : ℤ × Value). e.1 ≢ l.v) (take l.entry-index l.entry-items)
