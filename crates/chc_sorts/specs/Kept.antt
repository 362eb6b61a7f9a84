-- What a signature keeps beside its datatypes.
use Rattle.std.specs.Prelude.{◌≡◌, ◌≤◌, ℕ, true, List, length}
use Rattle.std.specs.List.{list_all}
use Rattle.chc_sorts.specs.declared.meaning.Meaning.{Meaning}
use Rattle.chc_sorts.specs.Signature.{Signature, AllInhabited}
use Rattle.chc_sorts.specs.Functions.{functions}
use Rattle.chc_sorts.specs.WellFounded.{are_fields_known}
use Rattle.chc_sorts.specs.Listing.{is_narrow}
use Rattle.chc_sorts.specs.Named.{datatype_names}
use Rattle.chc_sorts.specs.Made.{CanBeMade}

-- the greatest number of datatypes
abbrev pub most_datatypes : ℕ
most_datatypes = 1024

-- groups have made the signature; every datatype has a value, the sorts of all fields name datatypes of the signature alone, there are not too many
-- datatypes, none has too many constructors or fields, and the two tables hold their names, and their constructors and
-- selectors
pub record IsKept (sig : Signature) (names : List (List ℕ)) (rows : List (List ℕ × Meaning)) : Type 0 where
  pub made : CanBeMade sig
  pub inhabited : AllInhabited sig.datatypes
  pub known : are_fields_known sig ≡ true
  pub few : length sig.datatypes ≤ most_datatypes
  pub narrow : list_all is_narrow sig.datatypes ≡ true
  pub named : names ≡ datatype_names sig
  pub tabled : rows ≡ functions sig
