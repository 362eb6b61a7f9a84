-- Signatures, and the sorts that have a value.
use Rattle.std.specs.Prelude.{◌≡◌, ℕ, List, [], ◌∷◌, Some, slice_get}
use Rattle.chc_sorts.specs.declared.sort.Sort.{Sort}
use Rattle.chc_sorts.specs.declared.sort.Sort.TheVariants as sort
use Rattle.chc_sorts.specs.declared.data.Data.{Data}
use Rattle.chc_sorts.specs.declared.data.Ctor.{Ctor}
use Rattle.chc_sorts.specs.declared.data.Field.{Field}

-- the datatypes, and how many each group has
pub record Signature : Type 0 where
  pub datatypes : List Data
  pub groups : List ℕ

abbrev pub no_datatypes : Signature
no_datatypes = record { datatypes = []; groups = [] }

-- the least set of sorts that holds Bool, Int, each array over a member,
-- and each datatype with a constructor whose fields are of members
mutual
  pub data IsInhabited (ds : List Data) : Sort → Type 0 where
    bool : IsInhabited ds sort.Bool
    int : IsInhabited ds sort.Int
    array : (s : Sort) → IsInhabited ds s → IsInhabited ds (sort.Array s)
    datatype : (d c : ℕ) (t : Data) (k : Ctor) → slice_get ds d ≡ Some t → slice_get t.ctors c ≡ Some k → FieldsInhabited ds k.fields → IsInhabited ds (sort.Data d)

  pub data FieldsInhabited (ds : List Data) : List Field → Type 0 where
    none : FieldsInhabited ds []
    more : (f : Field) (fs : List Field) → IsInhabited ds f.sort → FieldsInhabited ds fs → FieldsInhabited ds (f ∷ fs)

-- every datatype of the list has a value
abbrev pub AllInhabited : List Data → Type 0
AllInhabited ds = ∥ ((d : ℕ) (t : Data) → slice_get ds d ≡ Some t → IsInhabited ds (sort.Data d)) ∥₁
