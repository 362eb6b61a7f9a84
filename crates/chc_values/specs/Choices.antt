-- For each datatype its first constructor of least height, as it is found in rounds.
use Rattle.std.specs.Prelude.{◌≡◌, ℕ, ◌<◌, ◌≤◌, Bool, true, false, nat_lt, List, [], ◌∷◌, length, map, Option, Some, None, slice_get, option_map}
use Rattle.std.specs.List.{list_all, position_from}
use Rattle.chc_sorts.specs.declared.sort.Sort.{Sort, Sort-F, fold-Sort}
use Rattle.chc_sorts.specs.declared.data.Data.{Data}
use Rattle.chc_sorts.specs.declared.data.Ctor.{Ctor}
use Rattle.chc_sorts.specs.declared.data.Field.{Field}
use Rattle.chc_sorts.specs.Signature.{Signature}
use Rattle.chc_values.specs.declared.choice.Choice.{Choice}
use Rattle.chc_values.specs.Defaults.{HeightWithin, IsFirstLeast}

-- whether there is a choice for the datatype, of a height below n
abbrev pub is_below : Option (Option Choice) → ℕ → Bool
is_below (Some (Some k)) n = nat_lt k.height n
is_below (Some None) n = false
is_below None n = false

abbrev pub is_within_step : List (Option Choice) → ℕ → Sort-F Bool → Bool
is_within_step choices n Sort-F.Bool = true
is_within_step choices n Sort-F.Int = true
is_within_step choices n (Sort-F.Data d) = is_below (slice_get choices d) n
is_within_step choices n (Sort-F.Array within) = within

-- whether the choices tell that the sort's height is at most n
abbrev pub is_within : List (Option Choice) → ℕ → Sort → Bool
is_within choices n = fold-Sort Bool (is_within_step choices n)

-- the sorts of a constructor's fields
abbrev pub field_sorts : Ctor → List Sort
field_sorts k = map (λ (f : Field). f.sort) k.fields

-- whether the choices tell so of every field of the constructor
abbrev pub are_within : List (Option Choice) → ℕ → Ctor → Bool
are_within choices n k = list_all (is_within choices n) (field_sorts k)

abbrev pub choice : ℕ → ℕ → Choice
choice n c = record { height = n; ctor = c }

-- the choice for a datatype after the round for n: the one that it has, or the first constructor whose fields are within n
abbrev pub next_choice : List (Option Choice) → ℕ → Data → Option Choice → Option Choice
next_choice choices n t (Some k) = Some k
next_choice choices n t None = option_map (choice n) (position_from (are_within choices n) 0 t.ctors)

-- the choices for the datatypes after the round for n
abbrev pub next_choices : List (Option Choice) → ℕ → List Data → List (Option Choice) → List (Option Choice)
next_choices choices n [] olds = []
next_choices choices n (t ∷ ts) [] = []
next_choices choices n (t ∷ ts) (old ∷ olds) = next_choice choices n t old ∷ next_choices choices n ts olds

-- the choice is the datatype's first constructor of least height, and the choices tell of its fields
pub record IsChoice (sig : Signature) (choices : List (Option Choice)) (d : ℕ) (k : Choice) : Type 0 where
  pub sorts : List Sort
  pub first : IsFirstLeast sig d k.ctor sorts
  pub height : first.height ≡ k.height
  pub within : list_all (is_within choices k.height) sorts ≡ true

-- each of the choices is one
abbrev pub AreChoices : Signature → List (Option Choice) → Type 0
AreChoices sig choices = (d : ℕ) (k : Choice) → slice_get choices d ≡ Some (Some k) → IsChoice sig choices d k

-- the choices are those of all datatypes whose fields' height is below n
pub record AreAllBelow (sig : Signature) (n : ℕ) (choices : List (Option Choice)) : Type 0 where
  pub as_many : length choices ≡ length sig.datatypes
  pub right : AreChoices sig choices
  pub below : (d : ℕ) (k : Choice) → slice_get choices d ≡ Some (Some k) → k.height < n
  pub all : (m : ℕ) (s : Sort) → m ≤ n → HeightWithin sig m s → is_within choices m s ≡ true
