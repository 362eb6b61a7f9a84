-- What a sort's nested arrays are over.
use Rattle.std.specs.Prelude.{[]}
use Rattle.chc_sorts.specs.declared.sort.Sort.{Sort, Sort-F, fold-Sort}
use Rattle.chc_values.specs.declared.default.Base.{Base}
use Rattle.chc_values.specs.declared.value.Value.{Value}
use Rattle.chc_values.specs.declared.value.Value.TheVariants as value

abbrev pub base_step : Sort-F Base → Base
base_step Sort-F.Bool = Base.Bool
base_step Sort-F.Int = Base.Int
base_step (Sort-F.Data d) = Base.Data d
base_step (Sort-F.Array base) = base

-- the sort itself, or what its arrays are over
abbrev pub base_of : Sort → Base
base_of = fold-Sort Base base_step

abbrev pub in_arrays_step : Value → Sort-F Value → Value
in_arrays_step v Sort-F.Bool = v
in_arrays_step v Sort-F.Int = v
in_arrays_step v (Sort-F.Data d) = v
in_arrays_step v (Sort-F.Array element) = value.Array element []

-- the value of the sort's base, everywhere in each of its arrays
abbrev pub in_arrays : Value → Sort → Value
in_arrays v = fold-Sort Value (in_arrays_step v)
