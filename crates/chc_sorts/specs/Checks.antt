-- How the checks of a group answer, one after the other.
use Rattle.std.specs.Prelude.{◌≡◌, ⊤, ℕ, Bool, not, ◌||◌, nat_lt, cond, List, [], ◌∷◌, ◌++◌, Option, Some, None, Result, Ok, Err, codes, true, false, ◌&&◌, ◌+◌}
use Rattle.std.specs.Option.{option_map}
use Rattle.std.specs.Str.{bytes_eq}
use Rattle.chc_sorts.specs.declared.spec.SortSpec.{SortSpec, SortSpec-F, fold-SortSpec}
use Rattle.chc_sorts.specs.declared.refusal.SigErr.{SigErr}
use Rattle.chc_sorts.specs.declared.refusal.SigErr.TheVariants as refusal
use Rattle.chc_sorts.specs.declared.taken.NameSpaces.{NameSpaces}
use Rattle.chc_sorts.specs.declared.fields.SortFaults.{SortFaults}
use Rattle.chc_sorts.specs.Signature.{Signature}
use Rattle.chc_sorts.specs.Names.{has_name}
use Rattle.chc_sorts.specs.Named.{names_in, first_unknown, most_depth}
use Rattle.chc_sorts.specs.Groups.{Declared, first_taken, fixed_sorts, taken_names}

-- the answer is the fault, or that there is none, or memory was refused
abbrev pub Checks : Result ⊤ SigErr → Option SigErr → Type 0
Checks (Ok done) fault = fault ≡ None
Checks (Err refusal.NoMemory) fault = ⊤
Checks (Err (refusal.NameTaken name)) fault = fault ≡ Some (refusal.NameTaken name)
Checks (Err (refusal.UnknownSort name)) fault = fault ≡ Some (refusal.UnknownSort name)
Checks (Err refusal.ArrayIndex) fault = fault ≡ Some refusal.ArrayIndex
Checks (Err refusal.SortTooDeep) fault = fault ≡ Some refusal.SortTooDeep
Checks (Err (refusal.TooMany limit)) fault = fault ≡ Some (refusal.TooMany limit)
Checks (Err (refusal.NotWellFounded name)) fault = ⊥

-- the same of a check that gives a value, which is that one
abbrev pub ChecksFor : {A : Type 0} → A → Result A SigErr → Option SigErr → Type 0
ChecksFor wanted (Ok a) fault = (fault ≡ None) × (a ≡ wanted)
ChecksFor wanted (Err e) fault = Checks (Err e) fault

-- a check of some items, which goes from one state to the next: what is found in them and in any that follow
abbrev pub Passes : {S X : Type 0} → (S → List X → Option SigErr) → S → List X → Result ⊤ SigErr → S → Type 0
Passes {S} {X} found old items (Ok done) new = (more : List X) → found old (items ++ more) ≡ found new more
Passes {S} {X} found old items (Err refusal.NoMemory) new = ⊤
Passes {S} {X} found old items (Err (refusal.NameTaken name)) new = (more : List X) → found old (items ++ more) ≡ Some (refusal.NameTaken name)
Passes {S} {X} found old items (Err (refusal.UnknownSort name)) new = (more : List X) → found old (items ++ more) ≡ Some (refusal.UnknownSort name)
Passes {S} {X} found old items (Err refusal.ArrayIndex) new = ⊥
Passes {S} {X} found old items (Err refusal.SortTooDeep) new = ⊥
Passes {S} {X} found old items (Err (refusal.TooMany limit)) new = ⊥
Passes {S} {X} found old items (Err (refusal.NotWellFounded name)) new = ⊥

-- the two lists have the same names
abbrev pub HaveSameNames : List (List ℕ) → List (List ℕ) → Type 0
HaveSameNames xs ys = (name : List ℕ) → has_name xs name ≡ has_name ys name

-- the names that are taken, where `own` holds those of all datatypes, and those of the group's functions so far
abbrev pub taken_with : Signature → List (List ℕ) → NameSpaces → NameSpaces
taken_with sig preds own = record { sorts = fixed_sorts ++ own.sorts; functions = (taken_names sig preds).functions ++ own.functions }

-- the refusal of a name
abbrev pub name_found : Signature → List (List ℕ) → NameSpaces → List Declared → Option SigErr
name_found sig preds own names = option_map (λ name. refusal.NameTaken name) (first_taken (taken_with sig preds own) names)

-- what a written sort is: whether it is Int, whether its arrays are over Int, and how deep it is
pub record Shape : Type 0 where
  pub is_int : Bool
  pub over_int : Bool
  pub depth : ℕ

abbrev pub shape_step : SortSpec-F Shape → Shape
shape_step (SortSpec-F.Named name) = record { is_int = bytes_eq name (codes "Int"); over_int = true; depth = 1 }
shape_step (SortSpec-F.Array index element) = record { is_int = false; over_int = index.is_int && element.over_int; depth = element.depth + 1 }

abbrev pub shape : SortSpec → Shape
shape = fold-SortSpec Shape shape_step

-- the faults with those of one more sort
abbrev pub faults_with : SortFaults → SortSpec → SortFaults
faults_with seen spec = record { misindexed = seen.misindexed || not (shape spec).over_int; deep = seen.deep || nat_lt most_depth (shape spec).depth }

-- the unknown name, or else what is found later
abbrev pub unknown_or : Option (List ℕ) → Option SigErr → Option SigErr
unknown_or (Some name) later = Some (refusal.UnknownSort name)
unknown_or None later = later

-- the refusal of written sorts: the first unknown name, else an array that isn't over Int, else a sort too deep
abbrev pub sort_found : List (List ℕ) → SortFaults → List SortSpec → Option SigErr
sort_found names seen [] = cond seen.misindexed (Some refusal.ArrayIndex) (cond seen.deep (Some refusal.SortTooDeep) None)
sort_found names seen (spec ∷ more) = unknown_or (first_unknown names (names_in spec)) (sort_found names (faults_with seen spec) more)
