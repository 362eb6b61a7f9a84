-- Marks on the datatypes that are known to have values.
use Rattle.std.specs.Prelude.{◌≡◌, ◌<◌, ℕ, Bool, true, false, not, List, length, Some, slice_get, slice_index_or}
use Rattle.std.specs.List.{list_all, list_any, count_by}
use Rattle.chc_sorts.specs.declared.sort.Sort.{Sort, Sort-F, fold-Sort}
use Rattle.chc_sorts.specs.declared.sort.Sort.TheVariants as sort
use Rattle.chc_sorts.specs.declared.data.Data.{Data}
use Rattle.chc_sorts.specs.declared.data.Ctor.{Ctor}
use Rattle.chc_sorts.specs.declared.data.Field.{Field}
use Rattle.chc_sorts.specs.Signature.{IsInhabited}

-- whether the datatype is marked
abbrev pub is_marked : List Bool → ℕ → Bool
is_marked marks d = slice_index_or marks d false

abbrev pub sort_marked_step : List Bool → Sort-F Bool → Bool
sort_marked_step marks Sort-F.Bool = true
sort_marked_step marks Sort-F.Int = true
sort_marked_step marks (Sort-F.Data d) = is_marked marks d
sort_marked_step marks (Sort-F.Array element) = element

-- whether the marks say that the sort has a value
abbrev pub sort_marked : List Bool → Sort → Bool
sort_marked marks = fold-Sort Bool (sort_marked_step marks)

-- whether they say so of each field
abbrev pub ctor_marked : List Bool → Ctor → Bool
ctor_marked marks k = list_all (λ (f : Field). sort_marked marks f.sort) k.fields

-- whether they say so of a constructor
abbrev pub data_marked : List Bool → Data → Bool
data_marked marks t = list_any (ctor_marked marks) t.ctors

-- each marked datatype has a value
pub record AreTrue (ds : List Data) (marks : List Bool) : Type 0 where
  pub inhabited : (d : ℕ) → is_marked marks d ≡ true → IsInhabited ds (sort.Data d)

-- a datatype is marked where the marks say that it has a value
pub record AreClosed (ds : List Data) (marks : List Bool) : Type 0 where
  pub marked : (d : ℕ) (t : Data) → slice_get ds d ≡ Some t → data_marked marks t ≡ true → is_marked marks d ≡ true

-- how many datatypes aren't marked
abbrev pub unmarked : List Bool → ℕ
unmarked marks = count_by not marks

-- each datatype below n is marked
abbrev pub AllMarked : List Bool → ℕ → Type 0
AllMarked marks n = (d : ℕ) → d < n → is_marked marks d ≡ true

-- the datatype of that number is the first that has no value
pub record IsFirstEmptyAt (ds : List Data) (number : ℕ) : Type 0 where
  pub within : number < length ds
  pub empty : IsInhabited ds (sort.Data number) → ⊥
  pub earlier : (d : ℕ) → d < number → ∥ IsInhabited ds (sort.Data d) ∥₁
