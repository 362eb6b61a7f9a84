use Rattle.std.proofs.Common.{ℕ, ℤ, ◌+◌, ◌<◌, ◌<ℤ◌, get_or}
use Rattle.chc_values.specs.declared.value.Value.{Value}
use Rattle.chc_values.proofs.sorting.is_ordered.Given as goal

abbrev pub invariant-loop-i : goal.invariant-loop-i
invariant-loop-i l = (k : ℕ) (d : ℤ × Value) → k + 1 < l.i → (get_or l.entries k d).0 <ℤ (get_or l.entries (k + 1) d).0
