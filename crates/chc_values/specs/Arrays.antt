-- Arrays: what stands at an index, and what a store makes.
use Rattle.std.specs.Prelude.{◌≡◌, ◌≢◌, ◌⊎◌, ℕ, ℤ, ◌<ℤ◌, ◌≤◌, List, length, map, Some, Contains, slice_get}
use Rattle.std.specs.List.{AllWithin}
use Rattle.chc_sorts.specs.declared.sort.Sort.{Sort}
use Rattle.chc_sorts.specs.declared.sort.Sort.TheVariants as sort
use Rattle.chc_sorts.specs.Signature.{Signature}
use Rattle.chc_values.specs.declared.value.Value.{Value}
use Rattle.chc_values.specs.declared.value.Value.TheVariants as value
use Rattle.chc_values.specs.Values.{IsAscending, IsCanonical, IsOf}

-- the array with this default and these exceptions has v at the index i
abbrev pub HasAt : Value → List (ℤ × Value) → ℤ → Value → Type 0
HasAt default exceptions i v = Contains exceptions (i, v) ⊎ (((u : Value) → Contains exceptions (i, u) → ⊥) × (v ≡ default))

-- the first array's exceptions with v at the index i, and as before at every other index, are the second
abbrev pub Stores : Value → List (ℤ × Value) → ℤ → Value → List (ℤ × Value) → Type 0
Stores default old i v new =
    IsCanonical default new × HasAt default new i v × ((j : ℤ) (u : Value) → j ≢ i → HasAt default old j u → HasAt default new j u)

-- the value is an array whose exceptions stand with ascending indices and differ from its default
abbrev pub IsArray : Value → Type 0
IsArray a = (default : Value) × (exceptions : List (ℤ × Value)) × (a ≡ value.Array default exceptions) × IsCanonical default exceptions

-- the array a has v at the index i
abbrev pub Selects : Value → ℤ → Value → Type 0
Selects a i v = (default : Value) × (exceptions : List (ℤ × Value)) × (a ≡ value.Array default exceptions) × HasAt default exceptions i v

-- b is the array a with v at the index i, and as before at every other index
abbrev pub Updates : Value → ℤ → Value → Value → Type 0
Updates a i v b =
    (default : Value) × (old new : List (ℤ × Value)) × (a ≡ value.Array default old) × (b ≡ value.Array default new) × Stores default old i v new

-- v is of each sort that the elements of the array a are of
abbrev pub IsElement : Value → Value → Type 0
IsElement a v = (sig : Signature) (element : Sort) → IsOf sig a (sort.Array element) → IsOf sig v element

-- b is of each array sort of a that has v among its elements' values
abbrev pub KeepsSort : Value → Value → Value → Type 0
KeepsSort a v b = (sig : Signature) (element : Sort) → IsOf sig a (sort.Array element) → IsOf sig v element → IsOf sig b (sort.Array element)

-- the indices ascend
abbrev pub IsOrdered : List (ℤ × Value) → Type 0
IsOrdered exceptions = IsAscending (map (λ (e : ℤ × Value). e.0) exceptions)

-- the exception at the place k has the index i
abbrev pub IsAt : ℤ → List (ℤ × Value) → ℕ → Type 0
IsAt i exceptions k = (v : Value) × (slice_get exceptions k ≡ Some (i, v))

-- the index i would go at the place k: lower ones stand before it, and greater ones from there on
abbrev pub IsGap : ℤ → List (ℤ × Value) → ℕ → Type 0
IsGap i exceptions k =
    (k ≤ length exceptions) × AllWithin (λ (e : ℤ × Value). e.0 <ℤ i) exceptions 0 k × AllWithin (λ (e : ℤ × Value). i <ℤ e.0) exceptions k (length exceptions)
