-- A signature that groups have made comes in groups, has names of its own, and few of them.
use Rattle.std.proofs.Common.{◌≡◌, ◌∙◌, sym, ap, refl, ℕ, zero, suc, ◌+◌, ◌*◌, ◌≤◌, ◌<◌, Bool, true, false, not, ◌||◌, nat_lt, List, [], ◌∷◌, ◌++◌, length, map, take, Option, Some, None, is_some, slice_get, codes, arith}
use Rattle.std.specs.List.{list_all, list_any, flat_map}
use Rattle.std.specs.Str.{bytes_eq}
use Rattle.std.proofs.Props.{props}
use Rattle.std.proofs.Math.Logic.{∥∥₁_elim}
use Rattle.std.proofs.lemmas.Bool.{false≢true, and_parts, or_parts}
use Rattle.std.proofs.lemmas.Bool.Decides.{nat_tests}
use Rattle.std.proofs.lemmas.List.{length-append, length-map, map-append}
use Rattle.std.proofs.lemmas.List.Folds.{list_all-append}
use Rattle.std.proofs.lemmas.Option.{none-some, same_Some}
use Rattle.std.proofs.lemmas.Slice.Eq.{bytes_eq-Decides}
use Rattle.chc_sorts.specs.declared.data.Data.{Data}
use Rattle.chc_sorts.specs.declared.data.Field.{Field}
use Rattle.chc_sorts.specs.declared.limit.Limit.TheVariants as limit
use Rattle.chc_sorts.specs.declared.spec.CtorSpec.{CtorSpec}
use Rattle.chc_sorts.specs.declared.spec.DataSpec.{DataSpec}
use Rattle.chc_sorts.specs.Signature.{Signature}
use Rattle.chc_sorts.specs.Names.{has_name}
use Rattle.chc_sorts.specs.Functions.{function_names}
use Rattle.chc_sorts.specs.Listing.{ctor_names, data_names}
use Rattle.chc_sorts.specs.Named.{datatype_names}
use Rattle.chc_sorts.specs.Groups.{fixed_sorts, names_with, with_group, first_refusal, limit_passed, is_wide, has_wide, field_declared, ctor_declared, data_declared}
use Rattle.chc_sorts.specs.Made.{IsMade, CanBeMade}
use Rattle.chc_sorts.specs.WellFounded.{is_data_known, are_fields_known}
use Rattle.chc_sorts.proofs.KnownLaws.{known_with_group}
use Rattle.chc_elab.specs.Apart.{are_apart}
use Rattle.chc_elab.proofs.Locals.{not_true}
use Rattle.term_again.specs.Naming.{AreFresh}
use Rattle.term_again.proofs.FreshSignatures.{made_is_fresh}
use Rattle.term_again.proofs.FunctionNames.{functions_with}
use Rattle.term_again.proofs.TermNames.{passes_at}
use Rattle.read_again.specs.FirstGroups.{total, before_group, first_groups, group_at, group_again, data_fits, HasOwnNames, ComesInGroups}
use Rattle.read_again.proofs.ReadSorts.{at_map}
use Rattle.read_again.proofs.GroupsAdded.{first_numbered, first_own, next_datatypes}
use Rattle.read_again.proofs.MadeSteps.{IsStep, made_whole, made_step, made_inhabited}
use Rattle.read_again.proofs.MadeAgain.{IsFree, nothing_against, group_fits, free_again, passed_on}

-- ---- names of its own

same_name : (name other : List ℕ) → name ≡ other → bytes_eq name other ≡ true
same_name name other e = (bytes_eq-Decides name other).1 e

has_at : (names : List (List ℕ)) (i : ℕ) (name : List ℕ) → slice_get names i ≡ Some name → has_name names name ≡ true
has_at [] i name h = absurd (none-some name h)
has_at (x ∷ names) zero name h = ap (λ b. b || has_name names name) (same_name name x (sym (same_Some x name h)))
has_at (x ∷ names) (suc i) name h = behind (bytes_eq name x) (has_at names i name h)
  where
    behind : (b : Bool) → has_name names name ≡ true → (b || has_name names name) ≡ true
    behind true e = refl
    behind false e = e

not_twice : (x : List ℕ) (names : List (List ℕ)) (i : ℕ) (name : List ℕ) → are_apart (x ∷ names) ≡ true → x ≡ name → slice_get names i ≡ Some name → ⊥
not_twice x names i name h e at =
    let absent = not_true (has_name names x) (and_parts (not (has_name names x)) (are_apart names) h).0 in
    false≢true (sym absent ∙ ap (has_name names) e ∙ has_at names i name at)

-- names that differ stand at one place each
one_place : (names : List (List ℕ)) → are_apart names ≡ true → (i j : ℕ) (name : List ℕ) → slice_get names i ≡ Some name → slice_get names j ≡ Some name → i ≡ j
one_place [] h i j name at there = absurd (none-some name at)
one_place (x ∷ names) h zero zero name at there = refl
one_place (x ∷ names) h zero (suc j) name at there = absurd (not_twice x names j name h (same_Some x name at) there)
one_place (x ∷ names) h (suc i) zero name at there = absurd (not_twice x names i name h (same_Some x name there) at)
one_place (x ∷ names) h (suc i) (suc j) name at there = ap suc (one_place names (and_parts (not (has_name names x)) (are_apart names) h).1 i j name at there)

module _ (sig : Signature) (fresh : AreFresh sig) where
  abbrev name_of : Data → List ℕ
  name_of t = t.name

  unfixed : (d : ℕ) (t : Data) → slice_get sig.datatypes d ≡ Some t → has_name fixed_sorts t.name ≡ false
  unfixed d t at =
      not_true (has_name fixed_sorts t.name) (passes_at (λ name. not (has_name fixed_sorts name)) (datatype_names sig) d t.name fresh.sorts_free (at_map name_of sig.datatypes d t at))

  unfixed_parts : (name : List ℕ) → has_name fixed_sorts name ≡ false → (bytes_eq name (codes "Bool") ≡ false) × (bytes_eq name (codes "Int") ≡ false)
  unfolding fixed_sorts
  unfixed_parts name h =
      let first = or_parts (bytes_eq name (codes "Bool")) (has_name (codes "Int" ∷ codes "Array" ∷ []) name) h in
      let second = or_parts (bytes_eq name (codes "Int")) (has_name (codes "Array" ∷ []) name) first.1 in
      (first.0, second.0)

  own_of_fresh : HasOwnNames sig
  own_of_fresh = record {
    apart = λ d e t u at there same.
        one_place (datatype_names sig) fresh.sorts_apart d e t.name (at_map name_of sig.datatypes d t at) (at_map name_of sig.datatypes e u there ∙ ap (λ (n : List ℕ). Some n) (sym same));
    not_bool = λ d t at. (unfixed_parts t.name (unfixed d t at)).0;
    not_int = λ d t at. (unfixed_parts t.name (unfixed d t at)).1;
  }

-- ---- each group

declared_names : (names : List (List ℕ)) (group : List DataSpec) → map (λ (t : Data). t.name) (map (data_declared names) group) ≡ map (λ (t : DataSpec). t.name) group
declared_names names [] = refl
declared_names names (t ∷ group) = ap (λ l. t.name ∷ l) (declared_names names group)

module _ (sig : Signature) (whole : total sig.groups ≡ length sig.datatypes) (steps : (n : ℕ) → n < length sig.groups → IsStep (first_groups sig n) (group_at sig n)) where
  module _ (n : ℕ) (low : n < length sig.groups) where
    -- the names of the datatypes once the group is there
    abbrev names_then : List (List ℕ)
    names_then = names_with (first_groups sig n) (steps n low).group

    -- the group's datatypes stand behind those of before
    grown : take (before_group sig (suc n)) sig.datatypes ≡ take (before_group sig n) sig.datatypes ++ map (data_declared names_then) (steps n low).group
    grown = sym (next_datatypes sig n low) ∙ ap (λ l. take (before_group sig n) sig.datatypes ++ l) (sym (steps n low).made)

    named : names_then ≡ datatype_names (first_groups sig (suc n))
    named =
        ap (λ l. datatype_names (first_groups sig n) ++ l) (sym (declared_names names_then (steps n low).group))
        ∙ sym (map-append (λ (t : Data). t.name) (take (before_group sig n) sig.datatypes) (map (data_declared names_then) (steps n low).group))
        ∙ ap (map (λ (t : Data). t.name)) (sym grown)

    named_count : length names_then ≤ length (take (before_group sig n) sig.datatypes) + length (steps n low).group
    named_count =
        omega (
          arith,
          length-append (datatype_names (first_groups sig n)) (map (λ (t : DataSpec). t.name) (steps n low).group),
          length-map (take (before_group sig n) sig.datatypes) (λ (t : Data). t.name),
          length-map (steps n low).group (λ (t : DataSpec). t.name),
        )

    known_next : are_fields_known (first_groups sig n) ≡ true → are_fields_known (first_groups sig (suc n)) ≡ true
    known_next before =
        known_with_group (take (before_group sig n) sig.datatypes) (take (before_group sig (suc n)) sig.datatypes) (take n sig.groups) (take (suc n) sig.groups) names_then (steps n low).group grown named_count before

  -- the sorts of all fields are known
  known_first : (n : ℕ) → n ≤ length sig.groups → are_fields_known (first_groups sig n) ≡ true
  known_first zero le = refl
  known_first (suc n) le = known_next n (omega (arith, le)) (known_first n (omega (arith, le)))

  module _ (n : ℕ) (low : n < length sig.groups) where
    free_of : IsFree (first_groups sig n) (steps n low).group (steps n low).preds
    free_of = nothing_against (first_groups sig n) (steps n low).group (steps n low).preds (steps n low).free

    made_fits : list_all (data_fits (first_groups sig (suc n))) (map (data_declared (names_then n low)) (steps n low).group) ≡ true
    made_fits =
        let new : Signature = first_groups sig (suc n) in
        let old : List Data = take (before_group sig n) sig.datatypes in
        let made : List Data = map (data_declared (names_then n low)) (steps n low).group in
        let all = sym (list_all-append (is_data_known new) old made) ∙ ap (list_all (is_data_known new)) (sym (grown n low)) ∙ known_first (suc n) (omega (arith, low)) in
        let known = (and_parts (list_all (is_data_known new) old) (list_all (is_data_known new) made) all).1 in
        group_fits new (names_then n low) (steps n low).group known free_of.shallow

    fields_of : list_all (data_fits (first_groups sig (suc n))) (group_at sig n) ≡ true
    fields_of = ap (list_all (data_fits (first_groups sig (suc n)))) (sym (steps n low).made) ∙ made_fits

    fits_of : HasOwnNames sig → first_refusal (first_groups sig n) (group_again sig (group_at sig n)) [] ≡ None
    fits_of own =
        ap (λ ts. first_refusal (first_groups sig n) (group_again sig ts) []) (sym (steps n low).made)
        ∙ free_again sig (first_groups sig n) (first_groups sig (suc n)) (steps n low).group (steps n low).preds free_of (named n low) (first_own sig own (suc n)) (first_numbered sig (suc n)) made_fits

-- ---- few names

within_limit : (m n : ℕ) → nat_lt m n ≡ false → n ≤ m
within_limit m n h = grind (arith, nat_tests)

module _ (names : List (List ℕ)) where
  ctor_few : (k : CtorSpec) → nat_lt 64 (length k.fields) ≡ false → length (ctor_names (ctor_declared names k)) ≤ 65
  ctor_few k short =
      omega (arith, length-map (map (field_declared names) k.fields) (λ (f : Field). f.name), length-map k.fields (field_declared names), within_limit 64 (length k.fields) short)

  ctors_few : (ks : List CtorSpec) → list_any (λ (k : CtorSpec). nat_lt 64 (length k.fields)) ks ≡ false → length (flat_map ctor_names (map (ctor_declared names) ks)) ≤ length ks * 65
  ctors_few [] short = omega arith
  ctors_few (k ∷ ks) short =
      let parts = or_parts (nat_lt 64 (length k.fields)) (list_any (λ (k : CtorSpec). nat_lt 64 (length k.fields)) ks) short in
      omega (arith, length-append (ctor_names (ctor_declared names k)) (flat_map ctor_names (map (ctor_declared names) ks)), ctor_few k parts.0, ctors_few ks parts.1)

  datas_few : (group : List DataSpec) → list_any is_wide group ≡ false → list_any has_wide group ≡ false → length (flat_map data_names (map (data_declared names) group)) ≤ length group * 16640
  datas_few [] narrow short = omega arith
  datas_few (t ∷ group) narrow short =
      let n = or_parts (is_wide t) (list_any is_wide group) narrow in
      let s = or_parts (has_wide t) (list_any has_wide group) short in
      omega (
        arith,
        length-append (data_names (data_declared names t)) (flat_map data_names (map (data_declared names) group)),
        ctors_few t.ctors s.0,
        within_limit 256 (length t.ctors) n.0,
        datas_few group n.1 s.1,
      )

-- few datatypes, each with few names
record HasFew (sig : Signature) : Type 0 where
  datatypes : length sig.datatypes ≤ 1024
  functions : length (function_names sig) ≤ length sig.datatypes * 16640

few_with : (sig : Signature) (group : List DataSpec) → limit_passed sig group ≡ None → HasFew sig → HasFew (with_group sig group)
few_with sig group within before =
    let names : List (List ℕ) = names_with sig group in
    let datas : List Data = map (data_declared names) group in
    let first = passed_on (nat_lt 1024 (length sig.datatypes + length group)) limit.L12 _ within in
    let second = passed_on (list_any is_wide group) limit.L13 _ first.1 in
    let third = passed_on (list_any has_wide group) limit.L14 _ second.1 in
    let more = datas_few names group second.0 third.0 in
    let size = length-map group (data_declared names) in
    let count = length-append sig.datatypes datas in
    record {
      datatypes = omega (arith, size, count, within_limit 1024 (length sig.datatypes + length group) first.0);
      functions = omega (arith, size, count, more, before.functions, ap length (functions_with sig group), length-append (function_names sig) (flat_map data_names datas));
    }

few_of : (sig : Signature) → IsMade sig → HasFew sig
few_of _ IsMade.empty = record { datatypes = omega arith; functions = omega arith }
few_of _ (IsMade.more sig group preds before free valued) = few_with sig group (nothing_against sig group preds free).within (few_of sig before)

-- ---- of every signature that can be made

nothing : {A : Type 0} (o : Option A) → is_some o ≡ false → o ≡ None
nothing None e = refl
nothing (Some x) e = absurd (false≢true (sym e))

pub made_comes : (sig : Signature) → CanBeMade sig → ComesInGroups sig
made_comes sig can =
    let own = own_of_fresh sig (made_is_fresh sig can) in
    record {
      whole = ∥∥₁_elim can (hlevel props) (made_whole sig);
      own = own;
      fields = λ n low. ∥∥₁_elim can (hlevel props) (λ m. fields_of sig (made_whole sig m) (made_step sig m) n low);
      fits = λ n low. nothing (first_refusal (first_groups sig n) (group_again sig (group_at sig n)) []) (∥∥₁_elim can (hlevel props) (λ m. ap is_some (fits_of sig (made_whole sig m) (made_step sig m) n low own)));
      inhabited = λ n. ∥∥₁_elim can (hlevel props) (λ m. made_inhabited sig m n);
    }

-- the fields of the first groups name datatypes of these alone
pub made_known : (sig : Signature) → CanBeMade sig → (n : ℕ) → n ≤ length sig.groups → are_fields_known (first_groups sig n) ≡ true
made_known sig can n le = ∥∥₁_elim can (hlevel props) (λ m. known_first sig (made_whole sig m) (made_step sig m) n le)

-- at most as many names of constructors and selectors as the limits allow
pub made_few : (sig : Signature) → CanBeMade sig → length (function_names sig) ≤ 1024 * 256 * 65
made_few sig can = ∥∥₁_elim can (hlevel props) (λ m. let few = few_of sig m in omega (arith, few.datatypes, few.functions))
