-- A group that comes into a signature, and one that is refused.
use Rattle.std.proofs.Common.{◌≡◌, ◌≤◌, ◌+◌, ℕ, Bool, true, false, ◌&&◌, ◌||◌, cond, nat_lt, List, [], ◌∷◌, ◌++◌, map, length, Option, Some, None, Err, option_map, refl, ap, sym, subst, ◌∙◌, arith}
use Rattle.std.specs.Prelude.{is_some}
use Rattle.std.specs.List.{list_any, list_all, flat_map}
use Rattle.std.specs.Option.{option_or}
use Rattle.std.proofs.lemmas.Bool.{false≢true}
use Rattle.std.proofs.lemmas.Bool.Decides.{nat_tests}
use Rattle.chc_sorts.specs.declared.limit.Limit.TheVariants as limit
use Rattle.chc_sorts.specs.declared.taken.NameSpaces.{NameSpaces}
use Rattle.chc_sorts.specs.declared.spec.FieldSpec.{FieldSpec}
use Rattle.chc_sorts.specs.declared.spec.CtorSpec.{CtorSpec}
use Rattle.chc_sorts.specs.declared.spec.DataSpec.{DataSpec}
use Rattle.chc_sorts.specs.declared.data.Data.{Data}
use Rattle.chc_sorts.specs.declared.meaning.Meaning.{Meaning}
use Rattle.chc_sorts.specs.declared.refusal.SigErr.{SigErr}
use Rattle.chc_sorts.specs.declared.refusal.SigErr.TheVariants as refusal
use Rattle.chc_sorts.specs.Signature.{Signature}
use Rattle.chc_sorts.specs.Signature.{AllInhabited}
use Rattle.chc_sorts.specs.Names.{has_name, each_from}
use Rattle.chc_sorts.specs.Functions.{functions, function_names}
use Rattle.chc_sorts.specs.Kept.{IsKept}
use Rattle.chc_sorts.specs.Made.{CanBeMade}
use Rattle.std.proofs.lemmas.List.{length-map, length-append}
use Rattle.std.proofs.lemmas.List.Folds.{list_all-append}
use Rattle.chc_sorts.specs.declared.data.Field.{Field}
use Rattle.chc_sorts.specs.Groups.{Declared, fixed_functions, field_declared, ctor_declares, data_declares, declared_by, first_taken, taken_names, sort_refusal, limit_passed, first_refusal, names_with, field_specs, with_group, data_declared, ctor_declared, is_wide, has_wide, IsFirstEmpty, AddsGroup}
use Rattle.chc_sorts.specs.Checks.{Checks, HaveSameNames}
use Rattle.chc_sorts.specs.Listing.{Grows, AreFresh, ctor_names, data_names, rows_of, is_short, is_narrow}
use Rattle.chc_sorts.proofs.TakenLaws.{first_taken_same, has_two, has_three}
use Rattle.chc_sorts.specs.WellFounded.{are_fields_known}
use Rattle.chc_sorts.proofs.ListingLaws.{each_from-append}
use Rattle.chc_sorts.proofs.KnownLaws.{known_with_group}

-- the signature is kept where its parts are the same
pub kept_along : (ds es : List Data) (gs hs : List ℕ) (names : List (List ℕ)) (rows rows' : List (List ℕ × Meaning)) → es ≡ ds → hs ≡ gs → rows' ≡ rows
    → IsKept (record { datatypes = ds; groups = gs }) names rows → IsKept (record { datatypes = es; groups = hs }) names rows'
kept_along ds es gs hs names rows rows' d g r k =
    subst (λ (l : List Data). IsKept (record { datatypes = l; groups = hs }) names rows') (sym d)
    (subst (λ (l : List ℕ). IsKept (record { datatypes = ds; groups = l }) names rows') (sym g)
    (subst (λ (l : List (List ℕ × Meaning)). IsKept (record { datatypes = ds; groups = gs }) names l) (sym r) k))

-- the first refusal hangs on the names of the predicates alone
pub refusal_same : (sig : Signature) (group : List DataSpec) (preds table : List (List ℕ)) → HaveSameNames table preds → first_refusal sig group table ≡ first_refusal sig group preds
refusal_same sig group preds table h =
    ap (λ (o : Option (List ℕ)). option_or (option_map (λ name. refusal.NameTaken name) o) (option_or (sort_refusal (names_with sig group) (field_specs group)) (option_map (λ l. refusal.TooMany l) (limit_passed sig group))))
    (first_taken_same (declared_by group) (taken_names sig table) (taken_names sig preds) (λ name. refl)
    (λ name. has_two (fixed_functions ++ function_names sig) table name ∙ ap (λ b. has_name (fixed_functions ++ function_names sig) name || b) (h name) ∙ sym (has_two (fixed_functions ++ function_names sig) preds name)))

-- a refusal by the checks leaves all as it was
pub refused_by_check : (sig : Signature) (group : List DataSpec) (preds : List (List ℕ)) (e : SigErr) → Checks (Err e) (first_refusal sig group preds) → AddsGroup sig group preds (Err e) sig
refused_by_check sig group preds (refusal.NameTaken name) h = (h, refl)
refused_by_check sig group preds (refusal.UnknownSort name) h = (h, refl)
refused_by_check sig group preds refusal.ArrayIndex h = (h, refl)
refused_by_check sig group preds refusal.SortTooDeep h = (h, refl)
refused_by_check sig group preds (refusal.TooMany l) h = (h, refl)
refused_by_check sig group preds (refusal.NotWellFounded name) h = absurd h
refused_by_check sig group preds refusal.NoMemory h = refl

-- so does one by a datatype without values
pub refused_late : (sig new : Signature) (group : List DataSpec) (preds : List (List ℕ)) (e : SigErr) (ds es made : List Data) (gs hs : List ℕ) (rows rows' : List (List ℕ × Meaning))
    → new ≡ sig → first_refusal sig group preds ≡ None → ds ++ made ≡ (with_group sig group).datatypes → Grows ds gs rows made (Err e) es hs rows' → AddsGroup sig group preds (Err e) new
refused_late sig new group preds (refusal.NameTaken name) ds es made gs hs rows rows' n f d h = absurd h
refused_late sig new group preds (refusal.UnknownSort name) ds es made gs hs rows rows' n f d h = absurd h
refused_late sig new group preds refusal.ArrayIndex ds es made gs hs rows rows' n f d h = absurd h
refused_late sig new group preds refusal.SortTooDeep ds es made gs hs rows rows' n f d h = absurd h
refused_late sig new group preds (refusal.TooMany l) ds es made gs hs rows rows' n f d h = absurd h
refused_late sig new group preds (refusal.NotWellFounded name) ds es made gs hs rows rows' n f d h = (f, subst (λ (l : List Data). IsFirstEmpty l name) d h, n)
refused_late sig new group preds refusal.NoMemory ds es made gs hs rows rows' n f d h = n

never : {A : Type 0} (x : A) → Some x ≡ None → ⊥
never x h = false≢true (sym (ap is_some h))

first_of_none : {A : Type 0} (a b : Option A) → option_or a b ≡ None → (a ≡ None) × (b ≡ None)
first_of_none None b e = (refl, e)
first_of_none (Some x) b e = absurd (never x e)

unmapped : {A B : Type 0} (f : A → B) (o : Option A) → option_map f o ≡ None → o ≡ None
unmapped f None e = refl
unmapped f (Some x) e = absurd (never (f x) e)

-- a group without refusal: no name is taken, and no limit is passed
pub no_refusal : (sig : Signature) (group : List DataSpec) (preds : List (List ℕ)) → first_refusal sig group preds ≡ None
    → (first_taken (taken_names sig preds) (declared_by group) ≡ None) × (limit_passed sig group ≡ None)
no_refusal sig group preds e =
    let outer = first_of_none _ _ e in let inner = first_of_none _ _ outer.1 in
    (unmapped (λ name. refusal.NameTaken name) _ outer.0, unmapped (λ l. refusal.TooMany l) _ inner.1)

cond_none : {A : Type 0} (b : Bool) (x : A) (o : Option A) → cond b (Some x) o ≡ None → (b ≡ false) × (o ≡ None)
cond_none true x o e = absurd (never x e)
cond_none false x o e = (refl, e)

-- within the limits
pub few_datatypes : (sig : Signature) (group : List DataSpec) → limit_passed sig group ≡ None → length sig.datatypes + length group ≤ 1024
few_datatypes sig group e = let h = (cond_none (nat_lt 1024 (length sig.datatypes + length group)) limit.L12 _ e).0 in not_more (length sig.datatypes + length group) h
  where
    not_more : (n : ℕ) → nat_lt 1024 n ≡ false → n ≤ 1024
    not_more n h = grind (arith, nat_tests)

-- there are as many names as datatypes
pub length_names_with : (sig : Signature) (group : List DataSpec) → length (names_with sig group) ≡ length sig.datatypes + length group
length_names_with sig group =
    omega (
      arith,
      length-append (map (λ (t : Data). t.name) sig.datatypes) (map (λ (t : DataSpec). t.name) group),
      length-map sig.datatypes (λ (t : Data). t.name),
      length-map group (λ (t : DataSpec). t.name),
    )

or_none : (a b : Bool) → (a || b) ≡ false → (a ≡ false) × (b ≡ false)
or_none true b e = absurd (false≢true (sym e))
or_none false b e = (refl, e)

both_are : (a b : Bool) → a ≡ true → b ≡ true → (a && b) ≡ true
both_are a b p q = ap (λ x. x && b) p ∙ q

below_next : (n m : ℕ) → nat_lt m n ≡ false → nat_lt n (m + 1) ≡ true
below_next n m h = grind (arith, nat_tests)

short_ctors : (names : List (List ℕ)) (ks : List CtorSpec) → list_any (λ (k : CtorSpec). nat_lt 64 (length k.fields)) ks ≡ false → list_all is_short (map (ctor_declared names) ks) ≡ true
short_ctors names [] e = refl
short_ctors names (k ∷ ks) e =
    let h = or_none (nat_lt 64 (length k.fields)) _ e in
    both_are (is_short (ctor_declared names k)) _ (ap (λ n. nat_lt n 65) (length-map k.fields (field_declared names)) ∙ below_next (length k.fields) 64 h.0) (short_ctors names ks h.1)

narrow_all : (names : List (List ℕ)) (group : List DataSpec) → list_any is_wide group ≡ false → list_any has_wide group ≡ false → list_all is_narrow (map (data_declared names) group) ≡ true
narrow_all names [] e f = refl
narrow_all names (t ∷ group) e f =
    let h = or_none (is_wide t) _ e in let k = or_none (has_wide t) _ f in
    both_are (is_narrow (data_declared names t)) _
    (both_are (nat_lt (length (map (ctor_declared names) t.ctors)) 257) _ (ap (λ n. nat_lt n 257) (length-map t.ctors (ctor_declared names)) ∙ below_next (length t.ctors) 256 h.0) (short_ctors names t.ctors k.0))
    (narrow_all names group h.1 k.1)

pub narrow_datatypes : (sig : Signature) (group : List DataSpec) (names : List (List ℕ)) → limit_passed sig group ≡ None → list_all is_narrow (map (data_declared names) group) ≡ true
narrow_datatypes sig group names e =
    let one = (cond_none (nat_lt 1024 (length sig.datatypes + length group)) limit.L12 _ e).1 in
    let two = cond_none (list_any is_wide group) limit.L13 _ one in
    let three = cond_none (list_any has_wide group) limit.L14 _ two.1 in
    narrow_all names group two.0 three.0

-- the functions among names that are declared
functions_in : List Declared → List (List ℕ)
functions_in [] = []
functions_in (Declared.of_sort name ∷ xs) = functions_in xs
functions_in (Declared.of_function name ∷ xs) = name ∷ functions_in xs

functions_in-append : (xs ys : List Declared) → functions_in (xs ++ ys) ≡ functions_in xs ++ functions_in ys
unfolding functions_in
functions_in-append [] ys = refl
functions_in-append (Declared.of_sort name ∷ xs) ys = functions_in-append xs ys
functions_in-append (Declared.of_function name ∷ xs) ys = ap (λ l. name ∷ l) (functions_in-append xs ys)

in_fields : (names : List (List ℕ)) (fs : List FieldSpec) → functions_in (map (λ (f : FieldSpec). Declared.of_function f.name) fs) ≡ map (λ (f : Field). f.name) (map (field_declared names) fs)
unfolding functions_in
in_fields names [] = refl
in_fields names (f ∷ fs) = ap (λ l. f.name ∷ l) (in_fields names fs)

in_ctors : (names : List (List ℕ)) (ks : List CtorSpec) → functions_in (flat_map ctor_declares ks) ≡ flat_map ctor_names (map (ctor_declared names) ks)
unfolding functions_in
in_ctors names [] = refl
in_ctors names (k ∷ ks) =
    functions_in-append (ctor_declares k) (flat_map ctor_declares ks)
    ∙ ap (λ l. (k.name ∷ l) ++ functions_in (flat_map ctor_declares ks)) (in_fields names k.fields)
    ∙ ap (λ l. ctor_names (ctor_declared names k) ++ l) (in_ctors names ks)

in_group : (names : List (List ℕ)) (group : List DataSpec) → functions_in (declared_by group) ≡ flat_map data_names (map (data_declared names) group)
unfolding functions_in
in_group names [] = refl
in_group names (t ∷ group) =
    functions_in-append (data_declares t) (declared_by group)
    ∙ ap (λ l. l ++ functions_in (declared_by group)) (in_ctors names t.ctors)
    ∙ ap (λ l. data_names (data_declared names t) ++ l) (in_group names group)

fresh_in : (xs : List Declared) (taken : NameSpaces) → first_taken taken xs ≡ None → AreFresh taken.functions (functions_in xs)
unfolding functions_in
fresh_in [] taken e = tt
fresh_in (Declared.of_sort name ∷ xs) taken e = fresh_in xs (record { sorts = taken.sorts ++ name ∷ []; functions = taken.functions }) (cond_none (has_name taken.sorts name) name _ e).1
fresh_in (Declared.of_function name ∷ xs) taken e =
    let h = cond_none (has_name taken.functions name) name _ e in
    (h.0, fresh_in xs (record { sorts = taken.sorts; functions = taken.functions ++ name ∷ [] }) h.1)

fresh_less : (xs t u : List (List ℕ)) → ((name : List ℕ) → has_name t name ≡ false → has_name u name ≡ false) → AreFresh t xs → AreFresh u xs
fresh_less [] t u less h = tt
fresh_less (x ∷ xs) t u less h = (less x h.0, fresh_less xs (t ++ x ∷ []) (u ++ x ∷ []) one_more h.1)
  where
    one_more : (name : List ℕ) → has_name (t ++ x ∷ []) name ≡ false → has_name (u ++ x ∷ []) name ≡ false
    one_more name e =
        let parts = or_none (has_name t name) (has_name (x ∷ []) name) (sym (has_two t (x ∷ []) name) ∙ e) in
        has_two u (x ∷ []) name ∙ ap (λ b. b || has_name (x ∷ []) name) (less name parts.0) ∙ parts.1

-- the group's functions are fresh
pub fresh_functions : (sig : Signature) (group : List DataSpec) (preds names : List (List ℕ)) → first_taken (taken_names sig preds) (declared_by group) ≡ None
    → AreFresh (function_names sig) (flat_map data_names (map (data_declared names) group))
fresh_functions sig group preds names e =
    subst (λ (l : List (List ℕ)). AreFresh (function_names sig) l) (in_group names group)
    (fresh_less (functions_in (declared_by group)) (taken_names sig preds).functions (function_names sig) less (fresh_in (declared_by group) (taken_names sig preds) e))
  where
    less : (name : List ℕ) → has_name (taken_names sig preds).functions name ≡ false → has_name (function_names sig) name ≡ false
    less name h =
        let outer = or_none (has_name fixed_functions name || has_name (function_names sig) name) (has_name preds name) (sym (has_three fixed_functions (function_names sig) preds name) ∙ h) in
        (or_none (has_name fixed_functions name) (has_name (function_names sig) name) outer.0).1

map_on : {X Y : Type 0} (f : X → Y) (xs ys : List X) → map f (xs ++ ys) ≡ map f xs ++ map f ys
map_on f [] ys = refl
map_on f (x ∷ xs) ys = ap (λ l. f x ∷ l) (map_on f xs ys)

names_stay : (names : List (List ℕ)) (group : List DataSpec) → map (λ (t : DataSpec). t.name) group ≡ map (λ (t : Data). t.name) (map (data_declared names) group)
names_stay names [] = refl
names_stay names (t ∷ group) = ap (λ l. t.name ∷ l) (names_stay names group)

-- the signature is kept when a group came
pub kept_after : (ds es : List Data) (gs hs : List ℕ) (rows rows' : List (List ℕ × Meaning)) (group : List DataSpec) (names table : List (List ℕ)) (few : length ds + length group ≤ 1024)
    → AllInhabited (ds ++ map (data_declared names) group) → es ≡ ds ++ map (data_declared names) group → rows' ≡ rows ++ each_from rows_of (length ds) (map (data_declared names) group)
    → rows ≡ functions (record { datatypes = ds; groups = gs }) → table ≡ names_with (record { datatypes = ds; groups = gs }) group
    → list_all is_narrow ds ≡ true → list_all is_narrow (map (data_declared names) group) ≡ true
    → are_fields_known (record { datatypes = ds; groups = gs }) ≡ true → length names ≤ length ds + length group
    → CanBeMade (record { datatypes = es; groups = hs })
    → IsKept (record { datatypes = es; groups = hs }) table rows'
kept_after ds es gs hs rows rows' group names table few all e r old t before behind fields enough made = record {
  made = made;
  inhabited = subst AllInhabited (sym e) all;
  known = known_with_group ds es gs hs names group e enough fields;
  few = omega (arith, ap length e, length-append ds (map (data_declared names) group), length-map group (data_declared names));
  narrow = ap (list_all is_narrow) e ∙ list_all-append is_narrow ds (map (data_declared names) group) ∙ ap (λ b. b && list_all is_narrow (map (data_declared names) group)) before ∙ behind;
  named = t ∙ ap (λ l. map (λ (x : Data). x.name) ds ++ l) (names_stay names group) ∙ sym (map_on (λ (x : Data). x.name) ds (map (data_declared names) group)) ∙ ap (map (λ (x : Data). x.name)) (sym e);
  tabled = r ∙ ap (λ l. l ++ each_from rows_of (length ds) (map (data_declared names) group)) old
      ∙ ap (λ n. each_from rows_of 0 ds ++ each_from rows_of n (map (data_declared names) group)) start
      ∙ sym (each_from-append rows_of 0 ds (map (data_declared names) group)) ∙ ap (each_from rows_of 0) (sym e);
}
  where
    start : length ds ≡ 0 + length ds
    start = omega arith
