-- The sort that a written one stands for.
use Rattle.std.specs.Prelude.{◌≡◌, ℕ, nat_lt, cond, List, [], ◌∷◌, ◌++◌, map, Option, Some, None, Result, Ok, Err, codes, ⊤}
use Rattle.std.specs.Option.{option_map, option_and_then}
use Rattle.std.specs.Str.{bytes_eq}
use Rattle.chc_sorts.specs.declared.sort.Sort.{Sort}
use Rattle.chc_sorts.specs.declared.sort.Sort.TheVariants as sort
use Rattle.chc_sorts.specs.declared.spec.SortSpec.{SortSpec, SortSpec-F, fold-SortSpec}
use Rattle.chc_sorts.specs.declared.refusal.SigErr.{SigErr}
use Rattle.chc_sorts.specs.declared.refusal.SigErr.TheVariants as refusal
use Rattle.chc_sorts.specs.declared.data.Data.{Data}
use Rattle.chc_sorts.specs.Signature.{Signature}
use Rattle.chc_sorts.specs.Sorts.{same_sort, sort_depth}
use Rattle.chc_sorts.specs.Names.{number_of}

-- the names of a signature's datatypes
abbrev pub datatype_names : Signature → List (List ℕ)
datatype_names sig = map (λ (t : Data). t.name) sig.datatypes

-- the sort of a name, where the datatypes have these names
abbrev pub sort_named : List (List ℕ) → List ℕ → Option Sort
sort_named datatypes name =
    cond (bytes_eq name (codes "Bool")) (Some sort.Bool)
    (cond (bytes_eq name (codes "Int")) (Some sort.Int) (option_map (λ d. sort.Data d) (number_of datatypes name)))

abbrev pub names_step : SortSpec-F (List (List ℕ)) → List (List ℕ)
names_step (SortSpec-F.Named name) = name ∷ []
names_step (SortSpec-F.Array index element) = index ++ element

-- the names in a written sort, from left to right
abbrev pub names_in : SortSpec → List (List ℕ)
names_in = fold-SortSpec (List (List ℕ)) names_step

-- the name itself where it has no sort, else what is found after it
abbrev pub unless_known : List ℕ → Option (List ℕ) → Option Sort → Option (List ℕ)
unless_known name others None = Some name
unless_known name others (Some s) = others

-- the first of the names that no sort has
abbrev pub first_unknown : List (List ℕ) → List (List ℕ) → Option (List ℕ)
first_unknown datatypes [] = None
first_unknown datatypes (name ∷ names) = unless_known name (first_unknown datatypes names) (sort_named datatypes name)

-- the array over the elements, where the index sort is Int
abbrev pub array_over : Option Sort → Option Sort → Option Sort
array_over index element = option_and_then (λ i. cond (same_sort i sort.Int) (option_map (λ e. sort.Array e) element) None) index

abbrev pub meant_step : List (List ℕ) → SortSpec-F (Option Sort) → Option Sort
meant_step datatypes (SortSpec-F.Named name) = sort_named datatypes name
meant_step datatypes (SortSpec-F.Array index element) = array_over index element

-- the sort that a written one stands for, where its names are known and its arrays are over Int
abbrev pub sort_meant : List (List ℕ) → SortSpec → Option Sort
sort_meant datatypes = fold-SortSpec (Option Sort) (meant_step datatypes)

-- the greatest depth of a sort that is read
abbrev pub most_depth : ℕ
most_depth = 16

-- the sort, or why there is none: a name that no sort has comes first, then an array that isn't over Int, then a sort too deep
abbrev pub held_to_depth : Option Sort → Result Sort SigErr
held_to_depth None = Err refusal.ArrayIndex
held_to_depth (Some s) = cond (nat_lt most_depth (sort_depth s)) (Err refusal.SortTooDeep) (Ok s)

abbrev pub where_known : Option (List ℕ) → Option Sort → Result Sort SigErr
where_known (Some name) s = Err (refusal.UnknownSort name)
where_known None s = held_to_depth s

-- what a written sort is read as, where the datatypes have these names
abbrev pub sort_read : List (List ℕ) → SortSpec → Result Sort SigErr
sort_read datatypes spec = where_known (first_unknown datatypes (names_in spec)) (sort_meant datatypes spec)

-- the answer is that one, or memory was refused
abbrev pub Answers : {A : Type 0} → Result A SigErr → Result A SigErr → Type 0
Answers (Ok a) wanted = Ok a ≡ wanted
Answers (Err refusal.NoMemory) wanted = ⊤
Answers (Err (refusal.NameTaken name)) wanted = Err (refusal.NameTaken name) ≡ wanted
Answers (Err (refusal.UnknownSort name)) wanted = Err (refusal.UnknownSort name) ≡ wanted
Answers (Err refusal.ArrayIndex) wanted = Err refusal.ArrayIndex ≡ wanted
Answers (Err refusal.SortTooDeep) wanted = Err refusal.SortTooDeep ≡ wanted
Answers (Err (refusal.TooMany limit)) wanted = Err (refusal.TooMany limit) ≡ wanted
Answers (Err (refusal.NotWellFounded name)) wanted = Err (refusal.NotWellFounded name) ≡ wanted
