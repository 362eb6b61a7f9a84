-- Worlds: finite tables of what the standard leaves open.
use Rattle.std.specs.Prelude.{◌≡◌, ◌≢◌, ◌⊎◌, ℕ, ℤ, pos, List, [], ◌∷◌, ◌++◌, Some, Result, Ok, Err, ⊤, Contains, All, slice_get}
use Rattle.chc_sorts.specs.declared.sort.Sort.{Sort}
use Rattle.chc_sorts.specs.declared.sort.Sort.TheVariants as sort
use Rattle.chc_sorts.specs.Signature.{Signature}
use Rattle.chc_values.specs.declared.value.Value.{Value}
use Rattle.chc_values.specs.declared.value.Value.TheVariants as value
use Rattle.chc_values.specs.declared.world.WorldEntry.{WorldEntry}
use Rattle.chc_values.specs.declared.world.WorldEntry.TheVariants as entry
use Rattle.chc_values.specs.declared.world.WorldErr.{WorldErr}
use Rattle.chc_values.specs.declared.world.WorldErr.TheVariants as refusal
use Rattle.chc_values.specs.Values.{HasFields, IsOf}
use Rattle.chc_values.specs.Defaults.{IsDefault}

-- the number divided by zero gives r: what the table says, or 0 where it says nothing
abbrev pub DividesByZero : List WorldEntry → ℤ → ℤ → Type 0
DividesByZero w m r = Contains w (entry.Div0 m r) ⊎ (((x : ℤ) → Contains w (entry.Div0 m x) → ⊥) × (r ≡ pos 0))

-- the number's rest by zero is r, likewise
abbrev pub LeavesByZero : List WorldEntry → ℤ → ℤ → Type 0
LeavesByZero w m r = Contains w (entry.Mod0 m r) ⊎ (((x : ℤ) → Contains w (entry.Mod0 m x) → ⊥) × (r ≡ pos 0))

-- field i of constructor c, asked of the value v of the datatype d by another constructor, is r:
-- what the table says, or the default of the field's sort where it says nothing
abbrev pub SelectsOpen : Signature → List WorldEntry → ℕ → ℕ → ℕ → Value → Value → Type 0
SelectsOpen sig w d c i v r =
    Contains w (entry.Sel d c i v r)
    ⊎ (((x : Value) → Contains w (entry.Sel d c i v x) → ⊥)
    × (sorts : List Sort) × (s : Sort) × HasFields sig d c sorts × (slice_get sorts i ≡ Some s) × IsDefault sig s r)

-- the two entries speak of the same key
abbrev pub SameKey : WorldEntry → WorldEntry → Type 0
SameKey (entry.Sel d c i v r) e = (x : Value) × (e ≡ entry.Sel d c i v x)
SameKey (entry.Div0 m r) e = (x : ℤ) × (e ≡ entry.Div0 m x)
SameKey (entry.Mod0 m r) e = (x : ℤ) × (e ≡ entry.Mod0 m x)

-- no key stands twice
abbrev pub KeysOnce : List WorldEntry → Type 0
KeysOnce [] = Unit {0}
KeysOnce (e ∷ w) = All (λ other. SameKey e other → ⊥) w × KeysOnce w

-- the entry fits the signature: a selector's key is a value by another constructor than its own,
-- and its result is of the field's sort
abbrev pub EntryFits : Signature → WorldEntry → Type 0
EntryFits sig (entry.Sel d c i v r) =
    (sorts : List Sort) × (s : Sort) × (k : ℕ) × (fields : List Value)
    × HasFields sig d c sorts × (slice_get sorts i ≡ Some s) × (v ≡ value.Data d k fields) × (k ≢ c)
    × IsOf sig v (sort.Data d) × IsOf sig r s
EntryFits sig (entry.Div0 m r) = Unit {0}
EntryFits sig (entry.Mod0 m r) = Unit {0}

-- the table is a world of the signature
abbrev pub IsWorld : Signature → List WorldEntry → Type 0
IsWorld sig w = KeysOnce w × All (EntryFits sig) w

-- field i of constructor c of the datatype d is declared, and of the sort s
abbrev pub IsFieldSort : Signature → ℕ → ℕ → ℕ → Sort → Type 0
IsFieldSort sig d c i s = (sorts : List Sort) × HasFields sig d c sorts × (slice_get sorts i ≡ Some s)

-- some entry of the table speaks of e's key
abbrev pub HasKey : List WorldEntry → WorldEntry → Type 0
HasKey w e = (other : WorldEntry) × Contains w other × SameKey e other

-- what adding e to the table answers, and the table after it, which is the old one after a refusal:
-- `WrongSort` where e doesn't fit, otherwise `Twice` where its key is there, otherwise it stands at the end or memory was refused
abbrev pub Adds : Type 0 → List WorldEntry → WorldEntry → Result ⊤ WorldErr → List WorldEntry → Type 0
Adds fits old e (Ok done) new = fits × (HasKey old e → ⊥) × (new ≡ old ++ e ∷ [])
Adds fits old e (Err refusal.WrongSort) new = (fits → ⊥) × (new ≡ old)
Adds fits old e (Err refusal.Twice) new = fits × HasKey old e × (new ≡ old)
Adds fits old e (Err refusal.NoMemory) new = fits × (HasKey old e → ⊥) × (new ≡ old)
