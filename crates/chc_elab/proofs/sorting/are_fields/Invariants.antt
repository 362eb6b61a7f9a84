use Rattle.std.proofs.Common.{◌≡◌, drop, map}
use Rattle.chc_sorts.specs.declared.data.Field.{Field}
use Rattle.chc_sorts.specs.Sorts.{same_sorts}
use Rattle.chc_elab.proofs.sorting.are_fields.Given as goal

abbrev pub invariant-loop-i : goal.invariant-loop-i
invariant-loop-i l = same_sorts (drop l.i l.sorts) (map (λ (f : Field). f.sort) (drop l.i l.fields)) ≡ same_sorts l.sorts (map (λ (f : Field). f.sort) l.fields)
