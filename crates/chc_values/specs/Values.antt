-- What the values of a sort are.
use Rattle.std.specs.Prelude.{◌≡◌, ◌≢◌, ℕ, ℤ, ◌<ℤ◌, List, [], ◌∷◌, map, Some, All, slice_get}
use Rattle.std.specs.List.{AllByRecursion}
use Rattle.chc_sorts.specs.declared.sort.Sort.{Sort}
use Rattle.chc_sorts.specs.declared.sort.Sort.TheVariants as sort
use Rattle.chc_sorts.specs.declared.data.Data.{Data}
use Rattle.chc_sorts.specs.declared.data.Ctor.{Ctor}
use Rattle.chc_sorts.specs.declared.data.Field.{Field}
use Rattle.chc_sorts.specs.Signature.{Signature}
use Rattle.chc_values.specs.declared.value.Value.{Value, Value-F, rec-Value}

-- constructor c of the datatype d is declared, and its fields have these sorts
abbrev pub HasFields : Signature → ℕ → ℕ → List Sort → Type 0
HasFields sig d c sorts = (t : Data) × (k : Ctor) × (slice_get sig.datatypes d ≡ Some t) × (slice_get t.ctors c ≡ Some k) × (map (λ (f : Field). f.sort) k.fields ≡ sorts)

-- as many values as sorts, each of the sort at its place
abbrev pub EachOf : {X : Type 0} → (X → Sort → Type 0) → List X → List Sort → Type 0
EachOf is_of [] [] = Unit {0}
EachOf is_of [] (s ∷ sorts) = ⊥
EachOf is_of (x ∷ xs) [] = ⊥
EachOf is_of (x ∷ xs) (s ∷ sorts) = is_of x s × EachOf is_of xs sorts

-- each index is above the one before it
abbrev pub IsAscending : List ℤ → Type 0
IsAscending [] = Unit {0}
IsAscending (i ∷ is) = All (λ j. i <ℤ j) is × IsAscending is

-- the exceptions of an array value stand with ascending indices, and none equals the default
abbrev pub IsCanonical : Value → List (ℤ × Value) → Type 0
IsCanonical default exceptions = IsAscending (map (λ (e : ℤ × Value). e.0) exceptions) × All (λ (e : ℤ × Value). e.1 ≢ default) exceptions

-- one level of `IsOf`: a truth value is of Bool, an integer of Int, a constructor on values of its
-- fields' sorts of its datatype, and a default with canonical exceptions of an array sort
abbrev pub LevelOf : {X : Type 0} → Signature → (X → Value) → (X → Sort → Type 0) → Value-F X → Sort → Type 0
LevelOf sig whole is_of (Value-F.Bool b) s = s ≡ sort.Bool
LevelOf sig whole is_of (Value-F.Int n) s = s ≡ sort.Int
LevelOf sig whole is_of (Value-F.Data d c xs) s = (sorts : List Sort) × (s ≡ sort.Data d) × HasFields sig d c sorts × EachOf is_of xs sorts
LevelOf {X} sig whole is_of (Value-F.Array x exceptions) s =
    (element : Sort) × (s ≡ sort.Array element) × is_of x element × AllByRecursion (λ (e : ℤ × X). is_of e.1 element) exceptions
    × IsCanonical (whole x) (map (λ (e : ℤ × X). (e.0, whole e.1)) exceptions)

-- the value is of the sort
abbrev pub IsOf : Signature → Value → Sort → Type 0
IsOf sig = rec-Value (Sort → Type 0) (λ X whole is_of level. LevelOf sig whole is_of level)

-- the values are of the sorts, in order
abbrev pub AreOf : Signature → List Value → List Sort → Type 0
AreOf sig = EachOf (IsOf sig)
