-- The first name that no sort has, in two lists.
use Rattle.std.proofs.Common.{◌≡◌, ℕ, List, [], ◌∷◌, ◌++◌, Option, Some, None, refl, ap, sym, ◌∙◌}
use Rattle.std.specs.Option.{option_or}
use Rattle.chc_sorts.specs.declared.sort.Sort.{Sort}
use Rattle.chc_sorts.specs.declared.spec.SortSpec.{SortSpec, SortSpec-F, fold-roll-SortSpec}
use Rattle.chc_sorts.specs.declared.spec.SortSpec.TheVariants as spec
use Rattle.chc_sorts.specs.Named.{sort_named, unless_known, names_step, names_in, first_unknown}

-- the names of an array are those of its indices, then those of its elements
names_in_array : (index element : SortSpec) → names_in (spec.Array index element) ≡ names_in index ++ names_in element
names_in_array index element = ap names_in (sym (spec.rolls-Array index element)) ∙ fold-roll-SortSpec (List (List ℕ)) names_step (SortSpec-F.Array index element)

pub first_unknown-append : (datatypes names more : List (List ℕ)) → first_unknown datatypes (names ++ more) ≡ option_or (first_unknown datatypes names) (first_unknown datatypes more)
first_unknown-append datatypes [] more = refl
first_unknown-append datatypes (name ∷ names) more = by (sort_named datatypes name) (first_unknown-append datatypes names more)
  where
    by : (s : Option Sort) → first_unknown datatypes (names ++ more) ≡ option_or (first_unknown datatypes names) (first_unknown datatypes more)
        → unless_known name (first_unknown datatypes (names ++ more)) s ≡ option_or (unless_known name (first_unknown datatypes names) s) (first_unknown datatypes more)
    by None e = refl
    by (Some s) e = e

-- the first unknown name of an array is that of its indices, or else that of its elements
pub first_unknown_array : (datatypes : List (List ℕ)) (index element : SortSpec) → first_unknown datatypes (names_in (spec.Array index element)) ≡ option_or (first_unknown datatypes (names_in index)) (first_unknown datatypes (names_in element))
first_unknown_array datatypes index element = ap (first_unknown datatypes) (names_in_array index element) ∙ first_unknown-append datatypes (names_in index) (names_in element)
