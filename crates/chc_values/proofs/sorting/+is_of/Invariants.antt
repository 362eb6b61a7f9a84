use Rattle.std.proofs.Common.{ℤ, ◌↔◌, map, drop}
use Rattle.std.specs.List.{AllByRecursion}
use Rattle.chc_sorts.specs.declared.data.Field.{Field}
use Rattle.chc_values.specs.declared.value.Value.{Value}
use Rattle.chc_values.specs.Values.{IsOf, AreOf}
use Rattle.chc_values.proofs.sorting.+is_of.Given as goal

abbrev pub invariant-are_of-loop-i : goal.invariant-are_of-loop-i
invariant-are_of-loop-i l =
    AreOf l.sig (drop l.i l.values) (map (λ (f : Field). f.sort) (drop l.i l.fields)) ↔ AreOf l.sig l.values (map (λ (f : Field). f.sort) l.fields)

abbrev pub invariant-are_entries_of-loop-entry : goal.invariant-are_entries_of-loop-entry
invariant-are_entries_of-loop-entry l =
    AllByRecursion (λ (e : ℤ × Value). IsOf l.sig e.1 l.sort) (drop l.entry-index l.entry-items) ↔ AllByRecursion (λ (e : ℤ × Value). IsOf l.sig e.1 l.sort) l.exceptions
