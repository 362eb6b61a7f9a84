-- The default of a sort: false, 0, the array that is the default everywhere, and for a datatype its
-- first constructor of least height on the defaults of its fields.
use Rattle.std.specs.Prelude.{false, ℕ, suc, pos, ◌<◌, List, [], ◌∷◌}
use Rattle.chc_sorts.specs.declared.sort.Sort.{Sort}
use Rattle.chc_sorts.specs.declared.sort.Sort.TheVariants as sort
use Rattle.chc_sorts.specs.Signature.{Signature}
use Rattle.chc_values.specs.declared.value.Value.{Value}
use Rattle.chc_values.specs.declared.value.Value.TheVariants as value
use Rattle.chc_values.specs.Values.{HasFields}

-- the height of the sort is at most n: 0 suffices for Bool and Int, an array has its element's,
-- and a datatype has 1 more than all fields of some constructor
mutual
  pub data HeightWithin (sig : Signature) : ℕ → Sort → Type 0 where
    bool : (n : ℕ) → HeightWithin sig n sort.Bool
    int : (n : ℕ) → HeightWithin sig n sort.Int
    array : (n : ℕ) (s : Sort) → HeightWithin sig n s → HeightWithin sig n (sort.Array s)
    datatype : (n d c : ℕ) (sorts : List Sort) → HasFields sig d c sorts → HeightsWithin sig n sorts → HeightWithin sig (suc n) (sort.Data d)

  pub data HeightsWithin (sig : Signature) : ℕ → List Sort → Type 0 where
    none : (n : ℕ) → HeightsWithin sig n []
    more : (n : ℕ) (s : Sort) (sorts : List Sort) → HeightWithin sig n s → HeightsWithin sig n sorts → HeightsWithin sig n (s ∷ sorts)

-- constructor c of the datatype d has the least height, and no constructor before it has that height too
pub record IsFirstLeast (sig : Signature) (d c : ℕ) (sorts : List Sort) : Type 0 where
  pub height : ℕ
  pub fields : HasFields sig d c sorts
  pub within : HeightsWithin sig height sorts
  pub least : (k m : ℕ) (others : List Sort) → HasFields sig d k others → HeightsWithin sig m others → m < height → ⊥
  pub first : (k : ℕ) (others : List Sort) → k < c → HasFields sig d k others → HeightsWithin sig height others → ⊥

-- the value is the sort's default
mutual
  pub data IsDefault (sig : Signature) : Sort → Value → Type 0 where
    bool : IsDefault sig sort.Bool (value.Bool false)
    int : IsDefault sig sort.Int (value.Int (pos 0))
    array : (s : Sort) (v : Value) → IsDefault sig s v → IsDefault sig (sort.Array s) (value.Array v [])
    datatype : (d c : ℕ) (sorts : List Sort) (vs : List Value) → IsFirstLeast sig d c sorts → AreDefaults sig sorts vs → IsDefault sig (sort.Data d) (value.Data d c vs)

  pub data AreDefaults (sig : Signature) : List Sort → List Value → Type 0 where
    none : AreDefaults sig [] []
    more : (s : Sort) (sorts : List Sort) (v : Value) (vs : List Value) → IsDefault sig s v → AreDefaults sig sorts vs → AreDefaults sig (s ∷ sorts) (v ∷ vs)
