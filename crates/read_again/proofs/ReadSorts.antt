-- What is written for a sort is read as it again, over each signature in which its datatypes have the same numbers.
use Rattle.std.proofs.Common.{◌≡◌, ◌∙◌, sym, ap, refl, ℕ, zero, suc, ◌+◌, ◌<◌, Bool, true, false, not, cond, nat_lt, List, [], ◌∷◌, ◌++◌, length, map, Option, Some, None, slice_get, option_map, Ok, Err, codes, arith}
use Rattle.std.specs.List.{position_or_len}
use Rattle.std.specs.Str.{bytes_eq}
use Rattle.std.proofs.lemmas.Bool.{lt-ltb}
use Rattle.std.proofs.lemmas.Bool.Decides.{nat_tests}
use Rattle.std.proofs.lemmas.Option.{slice_get_within, none-some, same_Some}
use Rattle.std.proofs.lemmas.Slice.Eq.{bytes_eq-Decides}
use Rattle.chc_sorts.specs.declared.sort.Sort.{Sort, Sort-F, fold-Sort, fold-roll-Sort}
use Rattle.chc_sorts.specs.declared.sort.Sort.TheVariants as sort
use Rattle.chc_sorts.specs.declared.spec.SortSpec.{SortSpec, SortSpec-F, fold-roll-SortSpec}
use Rattle.chc_sorts.specs.declared.spec.SortSpec.TheVariants as spec
use Rattle.chc_sorts.specs.declared.data.Data.{Data}
use Rattle.chc_sorts.specs.declared.refusal.SigErr.TheVariants as refusal
use Rattle.chc_sorts.specs.Signature.{Signature}
use Rattle.chc_sorts.specs.Sorts.{sort_depth, sort_fits, is_declared_step}
use Rattle.chc_sorts.specs.Names.{number_of}
use Rattle.chc_sorts.specs.Named.{datatype_names, sort_named, names_in, names_step, first_unknown, unless_known, sort_meant, meant_step, array_over, where_known, sort_read}
use Rattle.chc_sorts.proofs.SameSort.{sort_ind, same_itself, both_true}
use Rattle.chc_sexpr.specs.declared.tree.Tree.{Tree}
use Rattle.chc_elab.specs.Sites.{◌>>>◌}
use Rattle.chc_elab.specs.SortTrees.{sort_at, sort_of_tree}
use Rattle.chc_print.specs.Texts.{data_name, name_of_data}
use Rattle.read_again.specs.FirstGroups.{written_sort, HasOwnNames}
use Rattle.read_again.proofs.WrittenSorts.{written-Bool, written-Int, written-Data, written-Array, SpellsSort}

-- ---- numbers of names

-- there is an element at each number below the length
pub there_is : {X : Type 0} (xs : List X) (i : ℕ) → i < length xs → (x : X) × (slice_get xs i ≡ Some x)
there_is [] i low = absurd (omega arith)
there_is (x ∷ xs) zero low = (x, refl)
there_is (x ∷ xs) (suc i) low = there_is xs i (omega arith)

-- what stands at a place of a list whose elements are changed
pub map_at : {X Y : Type 0} (f : X → Y) (xs : List X) (i : ℕ) (y : Y) → slice_get (map f xs) i ≡ Some y → (x : X) × (slice_get xs i ≡ Some x) × (f x ≡ y)
map_at f [] i y h = absurd (none-some y h)
map_at f (x ∷ xs) zero y h = (x, refl, same_Some (f x) y h)
map_at f (x ∷ xs) (suc i) y h = map_at f xs i y h

pub at_map : {X Y : Type 0} (f : X → Y) (xs : List X) (i : ℕ) (x : X) → slice_get xs i ≡ Some x → slice_get (map f xs) i ≡ Some (f x)
at_map f [] i x h = absurd (none-some x h)
at_map f (y ∷ xs) zero x h = ap (λ z. Some (f z)) (same_Some y x h)
at_map f (y ∷ xs) (suc i) x h = at_map f xs i x h

bytes_same : (xs ys : List ℕ) → xs ≡ ys → bytes_eq xs ys ≡ true
bytes_same xs ys e = (bytes_eq-Decides xs ys).1 e

bytes_other : (xs ys : List ℕ) → (xs ≡ ys → ⊥) → bytes_eq xs ys ≡ false
bytes_other xs ys other = by (bytes_eq xs ys) refl
  where
    by : (b : Bool) → bytes_eq xs ys ≡ b → bytes_eq xs ys ≡ false
    by true e = absurd (other ((bytes_eq-Decides xs ys).0 e))
    by false e = e

first_place : {X : Type 0} (test : X → Bool) (xs : List X) (i : ℕ) (x : X) → slice_get xs i ≡ Some x → test x ≡ true
    → ((j : ℕ) (y : X) → j < i → slice_get xs j ≡ Some y → test y ≡ false) → position_or_len test xs ≡ i
first_place test [] i x at passes before = absurd (none-some x at)
first_place test (y ∷ ys) zero x at passes before =
    ap (λ t. cond (not t) (1 + position_or_len test ys) 0) (ap test (same_Some y x at) ∙ passes)
first_place test (y ∷ ys) (suc i) x at passes before =
    ap (λ t. cond (not t) (1 + position_or_len test ys) 0) (before 0 y (omega arith) refl)
    ∙ ap (λ n. 1 + n) (first_place test ys i x at passes (λ j z low there. before (suc j) z (omega arith) there))
    ∙ omega arith

-- a name that no earlier one is has its place for its number
pub number_found : (names : List (List ℕ)) (i : ℕ) (name : List ℕ) → slice_get names i ≡ Some name → ((j : ℕ) → j < i → slice_get names j ≡ Some name → ⊥) → number_of names name ≡ Some i
number_found names i name at apart =
    let place = first_place (bytes_eq name) names i name at (bytes_same name name refl)
    (λ j other low there. bytes_other name other (λ same. apart j low (there ∙ ap Some (sym same)))) in
    ap (λ n. cond (nat_lt n (length names)) (Some n) None) place
    ∙ ap (λ t. cond t (Some i) None) (lt-ltb i (length names) (slice_get_within names i name at))

-- ---- sorts by name

-- a datatype is found under its name
pub found_by_name : (sig : Signature) → HasOwnNames sig → (d : ℕ) (t : Data) → slice_get sig.datatypes d ≡ Some t → sort_named (datatype_names sig) t.name ≡ Some (sort.Data d)
found_by_name sig own d t at =
    let name_of : Data → List ℕ = λ u. u.name in
    let number = number_found (datatype_names sig) d t.name (at_map name_of sig.datatypes d t at)
    (λ j low there. let other = map_at name_of sig.datatypes j t.name there in let same : j ≡ d = own.apart j d other.0 t other.1 at other.2 in absurd (omega arith)) in
    ap (λ b. cond b (Some sort.Bool) (cond (bytes_eq t.name (codes "Int")) (Some sort.Int) (option_map (λ e. sort.Data e) (number_of (datatype_names sig) t.name)))) (own.not_bool d t at)
    ∙ ap (λ b. cond b (Some sort.Int) (option_map (λ e. sort.Data e) (number_of (datatype_names sig) t.name))) (own.not_int d t at)
    ∙ ap (option_map (λ e. sort.Data e)) number

-- ---- the equations of what is read

names-Named : (name : List ℕ) → names_in (spec.Named name) ≡ name ∷ []
names-Named name = ap names_in (sym (spec.rolls-Named name)) ∙ fold-roll-SortSpec (List (List ℕ)) names_step (SortSpec-F.Named name)

names-Array : (index element : SortSpec) → names_in (spec.Array index element) ≡ names_in index ++ names_in element
names-Array index element = ap names_in (sym (spec.rolls-Array index element)) ∙ fold-roll-SortSpec (List (List ℕ)) names_step (SortSpec-F.Array index element)

module _ (names : List (List ℕ)) where
  meant-Named : (name : List ℕ) → sort_meant names (spec.Named name) ≡ sort_named names name
  meant-Named name = ap (sort_meant names) (sym (spec.rolls-Named name)) ∙ fold-roll-SortSpec (Option Sort) (meant_step names) (SortSpec-F.Named name)

  meant-Array : (index element : SortSpec) → sort_meant names (spec.Array index element) ≡ array_over (sort_meant names index) (sort_meant names element)
  meant-Array index element = ap (sort_meant names) (sym (spec.rolls-Array index element)) ∙ fold-roll-SortSpec (Option Sort) (meant_step names) (SortSpec-F.Array index element)

module _ (sig : Signature) where
  -- whether the sort names datatypes of the signature alone
  abbrev pub is_known : Sort → Bool
  is_known = fold-Sort Bool (is_declared_step sig)

  pub known-Data : (d : ℕ) → is_known (sort.Data d) ≡ nat_lt d (length sig.datatypes)
  known-Data d = ap is_known (sym (sort.rolls-Data d)) ∙ fold-roll-Sort Bool (is_declared_step sig) (Sort-F.Data d)

  pub known-Array : (s : Sort) → is_known (sort.Array s) ≡ is_known s
  known-Array s = ap is_known (sym (sort.rolls-Array s)) ∙ fold-roll-Sort Bool (is_declared_step sig) (Sort-F.Array s)

below_of : (d n : ℕ) → nat_lt d n ≡ true → d < n
below_of d n h = grind (arith, nat_tests)

shallow_of : (n : ℕ) → nat_lt n 17 ≡ true → nat_lt 16 n ≡ false
shallow_of n h = grind (arith, nat_tests)

-- ---- sorts are read again

-- the datatypes of the new signature have the same numbers in the old one
abbrev pub AreNumbered : Signature → Signature → Type 0
AreNumbered sig new = (d : ℕ) (t : Data) → slice_get new.datatypes d ≡ Some t → slice_get sig.datatypes d ≡ Some t

module _ (sig new : Signature) (own : HasOwnNames new) (same : AreNumbered sig new) where
  abbrev names : List (List ℕ)
  names = datatype_names new

  named_again : (d : ℕ) → d < length new.datatypes → sort_named names (data_name sig d) ≡ Some (sort.Data d)
  named_again d low =
      let t = there_is new.datatypes d low in
      ap (sort_named names) (ap name_of_data (same d t.0 t.1)) ∙ found_by_name new own d t.0 t.1

  -- no name in what is written for the sort is unknown, and it means the sort
  abbrev IsMeant : Sort → Type 0
  IsMeant s = is_known new s ≡ true → (first_unknown names (names_in (written_sort sig s)) ≡ None) × (sort_meant names (written_sort sig s) ≡ Some s)

  meant_by_name : (s : Sort) (name : List ℕ) → written_sort sig s ≡ spec.Named name → sort_named names name ≡ Some s
      → (first_unknown names (names_in (written_sort sig s)) ≡ None) × (sort_meant names (written_sort sig s) ≡ Some s)
  meant_by_name s name e named = (
    ap (λ w. first_unknown names (names_in w)) e ∙ ap (first_unknown names) (names-Named name) ∙ ap (unless_known name None) named,
    ap (sort_meant names) e ∙ meant-Named names name ∙ named,
  )

  array_meant : (s : Sort) → IsMeant s → IsMeant (sort.Array s)
  array_meant s ih known =
      let element = ih (sym (known-Array new s) ∙ known) in
      let w : SortSpec = written_sort sig s in (
        ap (λ x. first_unknown names (names_in x)) (written-Array sig s)
            ∙ ap (first_unknown names) (names-Array (spec.Named (codes "Int")) w ∙ ap (λ l. l ++ names_in w) (names-Named (codes "Int")))
            ∙ element.0,
        ap (sort_meant names) (written-Array sig s) ∙ meant-Array names (spec.Named (codes "Int")) w
            ∙ (λ i. array_over (meant-Named names (codes "Int") i) (element.1 i))
            ∙ ap (λ b. cond b (Some (sort.Array s)) None) (same_itself sort.Int),
      )

  pub sort_meant_again : (s : Sort) → IsMeant s
  sort_meant_again = sort_ind IsMeant (record {
    of_bool = λ known. meant_by_name sort.Bool (codes "Bool") (written-Bool sig) refl;
    of_int = λ known. meant_by_name sort.Int (codes "Int") (written-Int sig) refl;
    of_data = λ d known. meant_by_name (sort.Data d) (data_name sig d) (written-Data sig d) (named_again d (below_of d (length new.datatypes) (sym (known-Data new d) ∙ known)));
    of_array = array_meant;
  })

  -- what is written for a sort that fits is read as it
  pub sort_read_again : (s : Sort) → sort_fits new s ≡ true → sort_read names (written_sort sig s) ≡ Ok s
  sort_read_again s fits =
      let parts = both_true (is_known new s) (nat_lt (sort_depth s) 17) fits in
      let meant = sort_meant_again s parts.0 in
      (λ i. where_known (meant.0 i) (meant.1 i))
      ∙ ap (λ b. cond b (Err refusal.SortTooDeep) (Ok s)) (shallow_of (sort_depth s) parts.1)

  -- and so is a tree that spells it
  pub tree_read_again : (s : Sort) → sort_fits new s ≡ true → (tree : Tree) → SpellsSort (written_sort sig s) tree → (place : ℕ) → sort_of_tree new place tree ≡ Ok s
  tree_read_again s fits tree spells place =
      ap (λ r. r >>> (λ w. sort_at place (sort_read names w))) spells ∙ ap (sort_at place) (sort_read_again s fits)
