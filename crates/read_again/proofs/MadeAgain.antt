-- A group that nothing stands against is written again as one that nothing stands against.
use Rattle.std.proofs.Common.{◌≡◌, ◌∙◌, sym, ap, refl, ℕ, ◌+◌, Bool, true, false, not, ◌||◌, cond, nat_lt, List, [], ◌∷◌, ◌++◌, length, map, Option, Some, None, is_some, option_map, arith}
use Rattle.std.specs.List.{list_all, list_any, flat_map, AllByRecursion}
use Rattle.std.specs.Option.{option_or, unwrap_or}
use Rattle.std.specs.Str.{bytes_eq}
use Rattle.std.proofs.lemmas.Bool.{false≢true, and_parts, and_from, or_parts, or_from}
use Rattle.std.proofs.lemmas.Bool.Decides.{nat_tests}
use Rattle.std.proofs.lemmas.List.{length-map}
use Rattle.std.proofs.lemmas.List.Folds.{list_any-append}
use Rattle.chc_sorts.specs.declared.sort.Sort.{Sort, fold-Sort}
use Rattle.chc_sorts.specs.declared.sort.Sort.TheVariants as sort
use Rattle.chc_sorts.specs.declared.limit.Limit.TheVariants as limit
use Rattle.chc_sorts.specs.declared.data.Data.{Data}
use Rattle.chc_sorts.specs.declared.data.Ctor.{Ctor}
use Rattle.chc_sorts.specs.declared.data.Field.{Field}
use Rattle.chc_sorts.specs.declared.spec.SortSpec.{SortSpec}
use Rattle.chc_sorts.specs.declared.spec.FieldSpec.{FieldSpec}
use Rattle.chc_sorts.specs.declared.spec.CtorSpec.{CtorSpec}
use Rattle.chc_sorts.specs.declared.spec.DataSpec.{DataSpec}
use Rattle.chc_sorts.specs.declared.refusal.SigErr.{SigErr}
use Rattle.chc_sorts.specs.declared.refusal.SigErr.TheVariants as refusal
use Rattle.chc_sorts.specs.Signature.{Signature}
use Rattle.chc_sorts.specs.Sorts.{sort_depth, sort_fits, is_declared_step}
use Rattle.chc_sorts.specs.Names.{has_name}
use Rattle.chc_sorts.specs.Functions.{function_names}
use Rattle.chc_sorts.specs.Named.{datatype_names, names_in, first_unknown, unless_known, sort_named, sort_meant}
use Rattle.chc_sorts.specs.Groups.{Declared, ctor_declares, declared_by, fixed_sorts, fixed_functions, taken_names, first_taken, names_with, ctor_specs, data_specs, field_specs, is_misindexed, is_deep, is_wide, has_wide, limit_passed, refused_where, sort_refusal, first_refusal, field_declared, ctor_declared, data_declared}
use Rattle.chc_sorts.specs.WellFounded.{is_field_known, is_ctor_known, is_data_known}
use Rattle.chc_sorts.proofs.SameSort.{sort_depth-Bool}
use Rattle.read_again.specs.FirstGroups.{written_sort, field_again, ctor_again, group_again, ctor_fits, data_fits, HasOwnNames}
use Rattle.read_again.proofs.ReadSorts.{AreNumbered, sort_meant_again}

-- ---- what nothing stands against

never : {A : Type 0} (x : A) → ◌≡◌ {A = Option A} (Some x) None → ⊥
never x h = false≢true (sym (ap is_some h))

neither : {A : Type 0} (a b : Option A) → option_or a b ≡ None → (a ≡ None) × (b ≡ None)
neither None b e = (refl, e)
neither (Some x) b e = absurd (never x e)

unmapped : {A B : Type 0} (f : A → B) (o : Option A) → option_map f o ≡ None → o ≡ None
unmapped f None e = refl
unmapped f (Some x) e = absurd (never (f x) e)

pub passed_on : {A : Type 0} (b : Bool) (x : A) (o : Option A) → cond b (Some x) o ≡ None → (b ≡ false) × (o ≡ None)
passed_on true x o e = absurd (never x e)
passed_on false x o e = (refl, e)

-- no name of the group is taken, no sort of it is too deep, and it passes no limit
pub record IsFree (sig : Signature) (group : List DataSpec) (preds : List (List ℕ)) : Type 0 where
  pub untaken : first_taken (taken_names sig preds) (declared_by group) ≡ None
  pub shallow : list_any (λ spec. is_deep (sort_meant (names_with sig group) spec)) (field_specs group) ≡ false
  pub within : limit_passed sig group ≡ None

pub nothing_against : (sig : Signature) (group : List DataSpec) (preds : List (List ℕ)) → first_refusal sig group preds ≡ None → IsFree sig group preds
nothing_against sig group preds none =
    let names : List (List ℕ) = names_with sig group in
    let deep : Bool = list_any (λ spec. is_deep (sort_meant names spec)) (field_specs group) in
    let limits : Option SigErr = option_map (λ l. refusal.TooMany l) (limit_passed sig group) in
    let of_names = neither (option_map (λ name. refusal.NameTaken name) (first_taken (taken_names sig preds) (declared_by group))) (option_or (sort_refusal names (field_specs group)) limits) none in
    let of_sorts = neither (sort_refusal names (field_specs group)) limits of_names.1 in
    let of_known = neither (option_map (λ name. refusal.UnknownSort name) (first_unknown names (flat_map names_in (field_specs group))))
    (option_or (refused_where (list_any (is_misindexed names) (field_specs group)) refusal.ArrayIndex) (refused_where deep refusal.SortTooDeep)) of_sorts.0 in
    let of_index = neither (refused_where (list_any (is_misindexed names) (field_specs group)) refusal.ArrayIndex) (refused_where deep refusal.SortTooDeep) of_known.1 in
    record {
      untaken = unmapped (λ name. refusal.NameTaken name) (first_taken (taken_names sig preds) (declared_by group)) of_names.0;
      shallow = (passed_on deep refusal.SortTooDeep None of_index.1).0;
      within = unmapped (λ l. refusal.TooMany l) (limit_passed sig group) of_sorts.1;
    }

-- ---- the sorts of the fields fit

not_past : (n : ℕ) → nat_lt 16 n ≡ false → nat_lt n 17 ≡ true
not_past n h = grind (arith, nat_tests)

not_deep : (n : ℕ) → nat_lt n 17 ≡ true → nat_lt 16 n ≡ false
not_deep n h = grind (arith, nat_tests)

shallow_sort : (o : Option Sort) → is_deep o ≡ false → nat_lt (sort_depth (unwrap_or o sort.Bool)) 17 ≡ true
shallow_sort None h = ap (λ n. nat_lt n 17) sort_depth-Bool
shallow_sort (Some s) h = not_past (sort_depth s) h

none_of_both : {X : Type 0} (p : X → Bool) (xs ys : List X) → list_any p (xs ++ ys) ≡ false → (list_any p xs ≡ false) × (list_any p ys ≡ false)
none_of_both p xs ys h = or_parts (list_any p xs) (list_any p ys) (sym (list_any-append p xs ys) ∙ h)

module _ (new : Signature) (names : List (List ℕ)) where
  abbrev is_too_deep : SortSpec → Bool
  is_too_deep spec = is_deep (sort_meant names spec)

  fields_fit : (fs : List FieldSpec) → list_all (is_field_known new) (map (field_declared names) fs) ≡ true → list_any is_too_deep (map (λ (f : FieldSpec). f.sort) fs) ≡ false
      → list_all (λ (f : Field). sort_fits new f.sort) (map (field_declared names) fs) ≡ true
  fields_fit [] known deep = refl
  fields_fit (f ∷ fs) known deep =
      let s : Sort = unwrap_or (sort_meant names f.sort) sort.Bool in
      let k = and_parts (is_field_known new (field_declared names f)) (list_all (is_field_known new) (map (field_declared names) fs)) known in
      let d = or_parts (is_too_deep f.sort) (list_any is_too_deep (map (λ (f : FieldSpec). f.sort) fs)) deep in
      and_from (sort_fits new s) (list_all (λ (f : Field). sort_fits new f.sort) (map (field_declared names) fs))
      (and_from (fold-Sort Bool (is_declared_step new) s) (nat_lt (sort_depth s) 17) k.0 (shallow_sort (sort_meant names f.sort) d.0))
      (fields_fit fs k.1 d.1)

  ctors_fit : (ks : List CtorSpec) → list_all (is_ctor_known new) (map (ctor_declared names) ks) ≡ true → list_any is_too_deep (flat_map ctor_specs ks) ≡ false
      → list_all (ctor_fits new) (map (ctor_declared names) ks) ≡ true
  ctors_fit [] known deep = refl
  ctors_fit (k ∷ ks) known deep =
      let n = and_parts (is_ctor_known new (ctor_declared names k)) (list_all (is_ctor_known new) (map (ctor_declared names) ks)) known in
      let d = none_of_both is_too_deep (ctor_specs k) (flat_map ctor_specs ks) deep in
      and_from (ctor_fits new (ctor_declared names k)) (list_all (ctor_fits new) (map (ctor_declared names) ks)) (fields_fit k.fields n.0 d.0) (ctors_fit ks n.1 d.1)

  pub group_fits : (group : List DataSpec) → list_all (is_data_known new) (map (data_declared names) group) ≡ true → list_any is_too_deep (field_specs group) ≡ false
      → list_all (data_fits new) (map (data_declared names) group) ≡ true
  group_fits [] known deep = refl
  group_fits (t ∷ group) known deep =
      let n = and_parts (is_data_known new (data_declared names t)) (list_all (is_data_known new) (map (data_declared names) group)) known in
      let d = none_of_both is_too_deep (data_specs t) (field_specs group) deep in
      and_from (data_fits new (data_declared names t)) (list_all (data_fits new) (map (data_declared names) group)) (ctors_fit t.ctors n.0 d.0) (group_fits group n.1 d.1)

-- ---- the sorts that are written are read

-- the written sort is read, and isn't too deep
record IsRead (names : List (List ℕ)) (spec : SortSpec) : Type 0 where
  known : first_unknown names (names_in spec) ≡ None
  sort : Sort
  means : sort_meant names spec ≡ Some sort
  shallow : nat_lt 16 (sort_depth sort) ≡ false

none_unknown : (names xs ys : List (List ℕ)) → first_unknown names xs ≡ None → first_unknown names ys ≡ None → first_unknown names (xs ++ ys) ≡ None
none_unknown names [] ys h k = k
none_unknown names (x ∷ xs) ys h k = by (sort_named names x) (λ e. none_unknown names xs ys e k) h
  where
    by : (o : Option Sort) → (first_unknown names xs ≡ None → first_unknown names (xs ++ ys) ≡ None) → unless_known x (first_unknown names xs) o ≡ None → unless_known x (first_unknown names (xs ++ ys)) o ≡ None
    by None more e = absurd (never x e)
    by (Some s) more e = more e

all_read : (names : List (List ℕ)) (specs : List SortSpec) → AllByRecursion (IsRead names) specs
    → (first_unknown names (flat_map names_in specs) ≡ None) × (list_any (is_misindexed names) specs ≡ false) × (list_any (λ spec. is_deep (sort_meant names spec)) specs ≡ false)
all_read names [] h = (refl, refl, refl)
all_read names (spec ∷ specs) h =
    let rest = all_read names specs h.1 in (
      none_unknown names (names_in spec) (flat_map names_in specs) h.0.known rest.0,
      or_from (is_misindexed names spec) (list_any (is_misindexed names) specs) (ap (λ o. not (is_some o)) h.0.means) rest.1,
      or_from (is_deep (sort_meant names spec)) (list_any (λ spec. is_deep (sort_meant names spec)) specs) (ap is_deep h.0.means ∙ h.0.shallow) rest.2,
    )

no_sort_refused : (names : List (List ℕ)) (specs : List SortSpec) → AllByRecursion (IsRead names) specs → sort_refusal names specs ≡ None
no_sort_refused names specs h =
    let all = all_read names specs h in
    λ i. option_or (option_map (λ name. refusal.UnknownSort name) (all.0 i)) (option_or (refused_where (all.1 i) refusal.ArrayIndex) (refused_where (all.2 i) refusal.SortTooDeep))

all_both : {X : Type 0} (P : X → Type 0) (xs ys : List X) → AllByRecursion P xs → AllByRecursion P ys → AllByRecursion P (xs ++ ys)
all_both P [] ys h k = k
all_both P (x ∷ xs) ys h k = (h.0, all_both P xs ys h.1 k)

module _ (sig new : Signature) (own : HasOwnNames new) (same : AreNumbered sig new) where
  abbrev IsReadSort : SortSpec → Type 0
  IsReadSort = IsRead (datatype_names new)

  written_is_read : (s : Sort) → sort_fits new s ≡ true → IsReadSort (written_sort sig s)
  written_is_read s fits =
      let parts = and_parts (fold-Sort Bool (is_declared_step new) s) (nat_lt (sort_depth s) 17) fits in
      let meant = sort_meant_again sig new own same s parts.0 in
      record { known = meant.0; sort = s; means = meant.1; shallow = not_deep (sort_depth s) parts.1 }

  fields_are_read : (fs : List Field) → list_all (λ (f : Field). sort_fits new f.sort) fs ≡ true → AllByRecursion IsReadSort (map (λ (f : FieldSpec). f.sort) (map (field_again sig) fs))
  fields_are_read [] fits = tt
  fields_are_read (f ∷ fs) fits =
      let parts = and_parts (sort_fits new f.sort) (list_all (λ (g : Field). sort_fits new g.sort) fs) fits in
      (written_is_read f.sort parts.0, fields_are_read fs parts.1)

  ctors_are_read : (ks : List Ctor) → list_all (ctor_fits new) ks ≡ true → AllByRecursion IsReadSort (flat_map ctor_specs (map (ctor_again sig) ks))
  ctors_are_read [] fits = tt
  ctors_are_read (k ∷ ks) fits =
      let parts = and_parts (ctor_fits new k) (list_all (ctor_fits new) ks) fits in
      all_both IsReadSort (ctor_specs (ctor_again sig k)) (flat_map ctor_specs (map (ctor_again sig) ks)) (fields_are_read k.fields parts.0) (ctors_are_read ks parts.1)

  group_is_read : (ts : List Data) → list_all (data_fits new) ts ≡ true → AllByRecursion IsReadSort (field_specs (group_again sig ts))
  group_is_read [] fits = tt
  group_is_read (t ∷ ts) fits =
      let parts = and_parts (data_fits new t) (list_all (data_fits new) ts) fits in
      all_both IsReadSort (flat_map ctor_specs (map (ctor_again sig) t.ctors)) (field_specs (group_again sig ts)) (ctors_are_read t.ctors parts.0) (group_is_read ts parts.1)

-- ---- names and sizes stay

-- none of the names is taken where fewer are
fewer_taken : (xs : List Declared) (sorts a b : List (List ℕ)) → ((name : List ℕ) → has_name a name ≡ false → has_name b name ≡ false)
    → first_taken (record { sorts = sorts; functions = a }) xs ≡ None → first_taken (record { sorts = sorts; functions = b }) xs ≡ None
fewer_taken [] sorts a b fewer h = refl
fewer_taken (Declared.of_sort name ∷ xs) sorts a b fewer h =
    let c = passed_on (has_name sorts name) name (first_taken (record { sorts = sorts ++ name ∷ []; functions = a }) xs) h in
    let rest = fewer_taken xs (sorts ++ name ∷ []) a b fewer c.1 in
    λ i. cond (c.0 i) (Some name) (rest i)
fewer_taken (Declared.of_function name ∷ xs) sorts a b fewer h =
    let c = passed_on (has_name a name) name (first_taken (record { sorts = sorts; functions = a ++ name ∷ [] }) xs) h in
    let rest = fewer_taken xs sorts (a ++ name ∷ []) (b ++ name ∷ []) (λ other e.
    let parts = none_of_both (bytes_eq other) a (name ∷ []) e in
    list_any-append (bytes_eq other) b (name ∷ []) ∙ or_from (has_name b other) (has_name (name ∷ []) other) (fewer other parts.0) parts.1) c.1 in
    λ i. cond (fewer name c.0 i) (Some name) (rest i)

module _ (sig : Signature) (names : List (List ℕ)) where
  fields_declare : (fs : List FieldSpec)
      → map (λ (f : FieldSpec). Declared.of_function f.name) (map (field_again sig) (map (field_declared names) fs)) ≡ map (λ (f : FieldSpec). Declared.of_function f.name) fs
  fields_declare [] = refl
  fields_declare (f ∷ fs) = ap (λ l. Declared.of_function f.name ∷ l) (fields_declare fs)

  ctors_declare : (ks : List CtorSpec) → flat_map ctor_declares (map (ctor_again sig) (map (ctor_declared names) ks)) ≡ flat_map ctor_declares ks
  ctors_declare [] = refl
  ctors_declare (k ∷ ks) = λ i. (Declared.of_function k.name ∷ fields_declare k.fields i) ++ ctors_declare ks i

  -- the group as it is written again
  abbrev pub again : List DataSpec → List DataSpec
  again group = group_again sig (map (data_declared names) group)

  group_declares : (group : List DataSpec) → declared_by (again group) ≡ declared_by group
  group_declares [] = refl
  group_declares (t ∷ group) = λ i. (Declared.of_sort t.name ∷ ctors_declare t.ctors i) ++ group_declares group i

  pub names_stay : (group : List DataSpec) → map (λ (t : DataSpec). t.name) (again group) ≡ map (λ (t : DataSpec). t.name) group
  names_stay [] = refl
  names_stay (t ∷ group) = ap (λ l. t.name ∷ l) (names_stay group)

  size_stays : (group : List DataSpec) → length (again group) ≡ length group
  size_stays [] = refl
  size_stays (t ∷ group) = omega (arith, size_stays group)

  ctor_size_stays : (k : CtorSpec) → length (ctor_again sig (ctor_declared names k)).fields ≡ length k.fields
  ctor_size_stays k = length-map (map (field_declared names) k.fields) (field_again sig) ∙ length-map k.fields (field_declared names)

  data_size_stays : (ks : List CtorSpec) → length (map (ctor_again sig) (map (ctor_declared names) ks)) ≡ length ks
  data_size_stays ks = length-map (map (ctor_declared names) ks) (ctor_again sig) ∙ length-map ks (ctor_declared names)

  wide_ctors_stay : (ks : List CtorSpec)
      → list_any (λ (k : CtorSpec). nat_lt 64 (length k.fields)) (map (ctor_again sig) (map (ctor_declared names) ks)) ≡ list_any (λ (k : CtorSpec). nat_lt 64 (length k.fields)) ks
  wide_ctors_stay [] = refl
  wide_ctors_stay (k ∷ ks) = λ i. nat_lt 64 (ctor_size_stays k i) || wide_ctors_stay ks i

  wide_stay : (group : List DataSpec) → list_any is_wide (again group) ≡ list_any is_wide group
  wide_stay [] = refl
  wide_stay (t ∷ group) = λ i. nat_lt 256 (data_size_stays t.ctors i) || wide_stay group i

  long_stay : (group : List DataSpec) → list_any has_wide (again group) ≡ list_any has_wide group
  long_stay [] = refl
  long_stay (t ∷ group) = λ i. wide_ctors_stay t.ctors i || long_stay group i

  limits_stay : (old : Signature) (group : List DataSpec) → limit_passed old (again group) ≡ limit_passed old group
  limits_stay old group =
      λ i. cond (nat_lt 1024 (length old.datatypes + size_stays group i)) (Some limit.L12) (cond (wide_stay group i) (Some limit.L13) (cond (long_stay group i) (Some limit.L14) None))

-- ---- nothing stands against the group that is written again

module _ (sig old new : Signature) (group : List DataSpec) (preds : List (List ℕ)) where
  abbrev known_names : List (List ℕ)
  known_names = names_with old group

  abbrev made : List Data
  made = map (data_declared known_names) group

  module _ (free : IsFree old group preds) (named : known_names ≡ datatype_names new) where
    untaken_again : first_taken (taken_names old []) (declared_by (group_again sig made)) ≡ None
    untaken_again =
        ap (first_taken (taken_names old [])) (group_declares sig known_names group)
        ∙ fewer_taken (declared_by group) (fixed_sorts ++ datatype_names old) (fixed_functions ++ function_names old ++ preds) (fixed_functions ++ function_names old ++ [])
        (λ name e.
        let parts = none_of_both (bytes_eq name) (fixed_functions ++ function_names old) preds e in
        list_any-append (bytes_eq name) (fixed_functions ++ function_names old) [] ∙ or_from (has_name (fixed_functions ++ function_names old) name) false parts.0 refl) free.untaken

    names_again : names_with old (group_again sig made) ≡ datatype_names new
    names_again = ap (λ l. datatype_names old ++ l) (names_stay sig known_names group) ∙ named

    pub free_again : HasOwnNames new → AreNumbered sig new → list_all (data_fits new) made ≡ true → first_refusal old (group_again sig made) [] ≡ None
    free_again own same fits =
        let sorts = ap (λ names. sort_refusal names (field_specs (group_again sig made))) names_again
        ∙ no_sort_refused (datatype_names new) (field_specs (group_again sig made)) (group_is_read sig new own same made fits) in
        let limits = limits_stay sig known_names old group ∙ free.within in
        λ i. option_or (option_map (λ name. refusal.NameTaken name) (untaken_again i)) (option_or (sorts i) (option_map (λ l. refusal.TooMany l) (limits i)))
