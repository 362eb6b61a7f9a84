-- Signatures in which every declared sort has a value.
use Rattle.std.specs.Prelude.{◌≡◌, Bool, true}
use Rattle.std.specs.List.{list_all}
use Rattle.chc_sorts.specs.declared.sort.Sort.{fold-Sort}
use Rattle.chc_sorts.specs.declared.data.Data.{Data}
use Rattle.chc_sorts.specs.declared.data.Ctor.{Ctor}
use Rattle.chc_sorts.specs.declared.data.Field.{Field}
use Rattle.chc_sorts.specs.Signature.{Signature, AllInhabited}
use Rattle.chc_sorts.specs.Sorts.{is_declared_step}

-- whether the field's sort names datatypes of the signature alone
abbrev pub is_field_known : Signature → Field → Bool
is_field_known sig f = fold-Sort Bool (is_declared_step sig) f.sort

-- whether the sorts of all fields of the constructor do
abbrev pub is_ctor_known : Signature → Ctor → Bool
is_ctor_known sig k = list_all (is_field_known sig) k.fields

-- whether the sorts of all fields of the datatype do
abbrev pub is_data_known : Signature → Data → Bool
is_data_known sig t = list_all (is_ctor_known sig) t.ctors

-- whether the sorts of all fields of the signature do
abbrev pub are_fields_known : Signature → Bool
are_fields_known sig = list_all (is_data_known sig) sig.datatypes

-- every datatype has a value, and the sort of every field names datatypes of the signature alone
pub record IsWellFounded (sig : Signature) : Type 0 where
  pub inhabited : AllInhabited sig.datatypes
  pub known : are_fields_known sig ≡ true
