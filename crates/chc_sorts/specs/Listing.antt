-- The rows of a group's constructors and selectors, and how a signature grows.
use Rattle.std.specs.Prelude.{◌≡◌, ⊤, ℕ, Bool, false, ◌&&◌, nat_lt, List, [], ◌∷◌, ◌++◌, map, length, take, Result, Ok, Err}
use Rattle.std.specs.List.{flat_map, list_all}
use Rattle.chc_sorts.specs.declared.data.Data.{Data}
use Rattle.chc_sorts.specs.declared.data.Ctor.{Ctor}
use Rattle.chc_sorts.specs.declared.data.Field.{Field}
use Rattle.chc_sorts.specs.declared.meaning.Meaning.{Meaning}
use Rattle.chc_sorts.specs.declared.refusal.SigErr.{SigErr}
use Rattle.chc_sorts.specs.declared.refusal.SigErr.TheVariants as refusal
use Rattle.chc_sorts.specs.Signature.{AllInhabited}
use Rattle.chc_sorts.specs.Names.{has_name, each_from}
use Rattle.chc_sorts.specs.Functions.{functions_of}
use Rattle.chc_sorts.specs.Groups.{IsFirstEmpty}

-- none of the names is taken, nor an earlier one of them
abbrev pub AreFresh : List (List ℕ) → List (List ℕ) → Type 0
AreFresh taken [] = ⊤
AreFresh taken (name ∷ names) = (has_name taken name ≡ false) × AreFresh (taken ++ name ∷ []) names

-- the names of rows
abbrev pub names_of : List (List ℕ × Meaning) → List (List ℕ)
names_of rows = map (λ (row : List ℕ × Meaning). row.0) rows

-- the names of a constructor and its selectors
abbrev pub ctor_names : Ctor → List (List ℕ)
ctor_names k = k.name ∷ map (λ (f : Field). f.name) k.fields

-- those of a datatype
abbrev pub data_names : Data → List (List ℕ)
data_names t = flat_map ctor_names t.ctors

-- the rows of a datatype
abbrev pub rows_of : ℕ → Data → List (List ℕ × Meaning)
rows_of d t = each_from (functions_of d) 0 t.ctors

-- whether the constructor has few fields
abbrev pub is_short : Ctor → Bool
is_short k = nat_lt (length k.fields) 65

-- whether the datatype has few constructors, with few fields
abbrev pub is_narrow : Data → Bool
is_narrow t = nat_lt (length t.ctors) 257 && list_all is_short t.ctors

-- the list begins as it was
abbrev pub Begins : {X : Type 0} → List X → List X → Type 0
Begins old new = take (length old) new ≡ old

-- every datatype has a value, or the first that has none is named
abbrev pub IsInhabitedOr : List Data → Result ⊤ SigErr → Type 0
IsInhabitedOr ds (Ok done) = AllInhabited ds
IsInhabitedOr ds (Err refusal.NoMemory) = ⊤
IsInhabitedOr ds (Err (refusal.NotWellFounded name)) = IsFirstEmpty ds name
IsInhabitedOr ds (Err (refusal.NameTaken name)) = ⊥
IsInhabitedOr ds (Err (refusal.UnknownSort name)) = ⊥
IsInhabitedOr ds (Err refusal.ArrayIndex) = ⊥
IsInhabitedOr ds (Err refusal.SortTooDeep) = ⊥
IsInhabitedOr ds (Err (refusal.TooMany limit)) = ⊥

-- the datatypes, the groups and the rows after a group came, or why it did not come
abbrev pub Grows : List Data → List ℕ → List (List ℕ × Meaning) → List Data → Result ⊤ SigErr → List Data → List ℕ → List (List ℕ × Meaning) → Type 0
Grows ds gs rows made (Ok done) ds' gs' rows' =
    AllInhabited (ds ++ made) × (ds' ≡ ds ++ made) × (gs' ≡ gs ++ length made ∷ []) × (rows' ≡ rows ++ each_from rows_of (length ds) made)
Grows ds gs rows made (Err refusal.NoMemory) ds' gs' rows' = ⊤
Grows ds gs rows made (Err (refusal.NotWellFounded name)) ds' gs' rows' = IsFirstEmpty (ds ++ made) name
Grows ds gs rows made (Err (refusal.NameTaken name)) ds' gs' rows' = ⊥
Grows ds gs rows made (Err (refusal.UnknownSort name)) ds' gs' rows' = ⊥
Grows ds gs rows made (Err refusal.ArrayIndex) ds' gs' rows' = ⊥
Grows ds gs rows made (Err refusal.SortTooDeep) ds' gs' rows' = ⊥
Grows ds gs rows made (Err (refusal.TooMany limit)) ds' gs' rows' = ⊥
