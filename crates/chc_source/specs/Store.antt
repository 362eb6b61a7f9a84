-- What a store holds.
use Rattle.std.specs.Prelude.{◌≡◌, ◌≢◌, ℕ, List, Option, Some}
use Rattle.std.specs.BTreeMap.{get_by_text}
use Rattle.chc_source.specs.declared.store.Store.{Store}

-- the bytes under a name
abbrev pub held_in : Store → List ℕ → Option (List ℕ)
held_in s n = get_by_text s.files n

-- these bytes stand under this name, and every other name is as before
pub record HoldsNow (name bytes : List ℕ) (old new : Store) : Type 0 where
  pub held : held_in new name ≡ Some bytes
  pub others : (n : List ℕ) → n ≢ name → held_in new n ≡ held_in old n

-- every name is as before
abbrev pub SameFiles : Store → Store → Type 0
SameFiles old new = (n : List ℕ) → held_in new n ≡ held_in old n
