use Rattle.std.proofs.Common.{◌*◌, ◌+◌, take, map}
use Rattle.chc_sorts.specs.declared.data.Field.{Field}
use Rattle.chc_values.specs.Defaults.{AreDefaults}
use Rattle.chc_values.proofs.default.+default.Given as goal

abbrev pub decreases-sort_default : goal.decreases-sort_default
decreases-sort_default l = 2 * l.height + 1

abbrev pub decreases-datatype_default : goal.decreases-datatype_default
decreases-datatype_default l = 2 * l.height

abbrev pub invariant-datatype_default-loop-field : goal.invariant-datatype_default-loop-field
invariant-datatype_default-loop-field l = AreDefaults l.sig (map (λ (f : Field). f.sort) (take l.field-index l.field-items)) l.values
