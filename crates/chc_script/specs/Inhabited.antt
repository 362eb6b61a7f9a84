-- The first datatype that has no value, by rounds of marks.
use Rattle.std.specs.Prelude.{◌≡◌, ℕ, zero, suc, Bool, false, cond, List, [], ◌∷◌, length, map, Option, Some, None}
use Rattle.chc_sorts.specs.declared.data.Data.{Data}
use Rattle.chc_sorts.specs.Signature.{AllInhabited}
use Rattle.chc_sorts.specs.Groups.{IsFirstEmpty}
use Rattle.chc_sorts.specs.Marks.{data_marked}

-- which datatypes are seen to have a value after n rounds: those with a constructor of whose fields that was seen before
abbrev pub marks_after : List Data → ℕ → List Bool
marks_after ds zero = map (λ t. false) ds
marks_after ds (suc n) = map (data_marked (marks_after ds n)) ds

-- the name of the first datatype that isn't marked
abbrev pub first_unmarked : List Data → List Bool → Option (List ℕ)
first_unmarked [] marks = None
first_unmarked (t ∷ ts) [] = None
first_unmarked (t ∷ ts) (marked ∷ marks) = cond marked (first_unmarked ts marks) (Some t.name)

-- the name of the first datatype that has no value; after as many rounds as there are datatypes no mark is missing
unfoldable pub first_without_value : List Data → Option (List ℕ)
first_without_value ds = first_unmarked ds (marks_after ds (length ds))

-- what is named is the first datatype that has no value, and nothing where all have one
pub record NamesFirstEmpty : Type 0 where
  pub none : (ds : List Data) → AllInhabited ds → first_without_value ds ≡ None
  pub first : (ds : List Data) (name : List ℕ) → IsFirstEmpty ds name → first_without_value ds ≡ Some name
