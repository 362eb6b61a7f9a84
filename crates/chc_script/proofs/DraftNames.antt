-- The names of a draft, when a predicate or a group comes, and at the end.
use Rattle.std.proofs.Common.{◌≡◌, ◌≤◌, ℕ, zero, suc, Bool, true, false, not, ◌||◌, cond, List, [], ◌∷◌, ◌++◌, length, map, Option, Some, None, slice_get, option_map, refl, ap, sym, ◌∙◌, arith}
use Rattle.std.specs.Prelude.{is_some}
use Rattle.std.specs.List.{list_all, flat_map}
use Rattle.std.specs.Option.{option_or}
use Rattle.std.specs.Str.{bytes_eq}
use Rattle.std.proofs.lemmas.Bool.{and_parts, and_from, false≢true}
use Rattle.std.proofs.lemmas.List.{map-append}
use Rattle.std.proofs.lemmas.List.Concat.{flat_map-append}
use Rattle.std.proofs.lemmas.List.Folds.{list_all-append, list_any-append}
use Rattle.std.proofs.lemmas.Option.{none-some, same_Some}
use Rattle.std.proofs.lemmas.Slice.Eq.{bytes_eq-Decides}
use Rattle.chc_sorts.specs.declared.data.Data.{Data}
use Rattle.chc_sorts.specs.declared.data.Ctor.{Ctor}
use Rattle.chc_sorts.specs.declared.data.Field.{Field}
use Rattle.chc_sorts.specs.declared.meaning.Meaning.{Meaning}
use Rattle.chc_sorts.specs.declared.meaning.Meaning.TheVariants as meaning
use Rattle.chc_sorts.specs.declared.refusal.SigErr.TheVariants as refusal
use Rattle.chc_sorts.specs.declared.spec.FieldSpec.{FieldSpec}
use Rattle.chc_sorts.specs.declared.spec.CtorSpec.{CtorSpec}
use Rattle.chc_sorts.specs.declared.spec.DataSpec.{DataSpec}
use Rattle.chc_sorts.specs.Signature.{Signature}
use Rattle.chc_sorts.specs.Names.{has_name, each_from}
use Rattle.chc_sorts.specs.Functions.{function_names, functions_of}
use Rattle.chc_sorts.specs.Listing.{names_of, ctor_names, data_names, rows_of}
use Rattle.chc_sorts.specs.Named.{datatype_names}
use Rattle.chc_sorts.specs.Groups.{Declared, ctor_declares, data_declares, declared_by, data_declared, ctor_declared, field_declared, names_with, with_group, first_taken, first_refusal, taken_names, fixed_functions, fixed_sorts, sort_refusal, field_specs, limit_passed}
use Rattle.chc_elab.specs.Apart.{are_apart}
use Rattle.chc_elab.proofs.Locals.{apart_push, either_false, not_true, same_name}
use Rattle.chc_state.specs.declared.clause.PredDecl.{PredDecl}
use Rattle.chc_state.specs.Names.{AreNamesOf, is_fixed_name, is_writable_name, signature_names}
use Rattle.chc_state.specs.States.{StateView}
use Rattle.chc_script.specs.Drafted.{AreNamed, is_free, is_writable_ctor, is_writable_spec, are_writable_specs}
use Rattle.chc_script.proofs.PredicateLaws.{all_more}

-- the names of rows are those of what they stand for
field_names : (d c n : ℕ) (fs : List Field) → names_of (each_from (λ i (f : Field). (f.name, meaning.Get d c i) ∷ []) n fs) ≡ map (λ (f : Field). f.name) fs
field_names d c n [] = refl
field_names d c n (f ∷ fs) = ap (λ l. f.name ∷ l) (field_names d c (suc n) fs)

names_of_ctors : (d n : ℕ) (ks : List Ctor) → names_of (each_from (functions_of d) n ks) ≡ flat_map ctor_names ks
names_of_ctors d n [] = refl
names_of_ctors d n (k ∷ ks) =
    map-append (λ (row : List ℕ × Meaning). row.0) (functions_of d n k) (each_from (functions_of d) (suc n) ks)
    ∙ ap (λ l. (k.name ∷ l) ++ names_of (each_from (functions_of d) (suc n) ks)) (field_names d n 0 k.fields)
    ∙ ap (λ l. ctor_names k ++ l) (names_of_ctors d (suc n) ks)

names_of_datas : (n : ℕ) (ts : List Data) → names_of (each_from rows_of n ts) ≡ flat_map data_names ts
names_of_datas n [] = refl
names_of_datas n (t ∷ ts) =
    map-append (λ (row : List ℕ × Meaning). row.0) (rows_of n t) (each_from rows_of (suc n) ts)
    ∙ ap (λ l. l ++ names_of (each_from rows_of (suc n) ts)) (names_of_ctors n 0 t.ctors)
    ∙ ap (λ l. data_names t ++ l) (names_of_datas (suc n) ts)

-- the functions of a signature with a group are those before, and the group's
pub functions_with : (sig : Signature) (group : List DataSpec)
    → function_names (with_group sig group) ≡ function_names sig ++ flat_map data_names (map (data_declared (names_with sig group)) group)
functions_with sig group =
    names_of_datas 0 (sig.datatypes ++ map (data_declared (names_with sig group)) group)
    ∙ flat_map-append data_names sig.datatypes (map (data_declared (names_with sig group)) group)
    ∙ ap (λ l. l ++ flat_map data_names (map (data_declared (names_with sig group)) group)) (sym (names_of_datas 0 sig.datatypes))

-- the functions among names that are declared
abbrev functions_in : List Declared → List (List ℕ)
functions_in [] = []
functions_in (Declared.of_sort name ∷ xs) = functions_in xs
functions_in (Declared.of_function name ∷ xs) = name ∷ functions_in xs

functions_in-append : (xs ys : List Declared) → functions_in (xs ++ ys) ≡ functions_in xs ++ functions_in ys
functions_in-append [] ys = refl
functions_in-append (Declared.of_sort name ∷ xs) ys = functions_in-append xs ys
functions_in-append (Declared.of_function name ∷ xs) ys = ap (λ l. name ∷ l) (functions_in-append xs ys)

in_fields : (names : List (List ℕ)) (fs : List FieldSpec) → functions_in (map (λ (f : FieldSpec). Declared.of_function f.name) fs) ≡ map (λ (f : Field). f.name) (map (field_declared names) fs)
in_fields names [] = refl
in_fields names (f ∷ fs) = ap (λ l. f.name ∷ l) (in_fields names fs)

in_ctors : (names : List (List ℕ)) (ks : List CtorSpec) → functions_in (flat_map ctor_declares ks) ≡ flat_map ctor_names (map (ctor_declared names) ks)
in_ctors names [] = refl
in_ctors names (k ∷ ks) =
    functions_in-append (ctor_declares k) (flat_map ctor_declares ks)
    ∙ ap (λ l. (k.name ∷ l) ++ functions_in (flat_map ctor_declares ks)) (in_fields names k.fields)
    ∙ ap (λ l. ctor_names (ctor_declared names k) ++ l) (in_ctors names ks)

in_group : (names : List (List ℕ)) (group : List DataSpec) → functions_in (declared_by group) ≡ flat_map data_names (map (data_declared names) group)
in_group names [] = refl
in_group names (t ∷ group) =
    functions_in-append (data_declares t) (declared_by group)
    ∙ ap (λ l. l ++ functions_in (declared_by group)) (in_ctors names t.ctors)
    ∙ ap (λ l. data_names (data_declared names t) ++ l) (in_group names group)

never : {A : Type 0} (x : A) → Some x ≡ None → ⊥
never x h = false≢true (sym (ap is_some h))

cond_none : {A : Type 0} (b : Bool) (x : A) (o : Option A) → cond b (Some x) o ≡ None → (b ≡ false) × (o ≡ None)
cond_none true x o e = absurd (never x e)
cond_none false x o e = (refl, e)

first_of_none : {A : Type 0} (a b : Option A) → option_or a b ≡ None → a ≡ None
first_of_none None b e = refl
first_of_none (Some x) b e = absurd (never x e)

unmapped : {A B : Type 0} (f : A → B) (o : Option A) → option_map f o ≡ None → o ≡ None
unmapped f None e = refl
unmapped f (Some x) e = absurd (never (f x) e)

left_true : (a b : Bool) → a ≡ true → (a || b) ≡ true
left_true true b h = refl
left_true false b h = absurd (false≢true h)

right_true : (a b : Bool) → b ≡ true → (a || b) ≡ true
right_true true b h = refl
right_true false b h = h

-- a name of a list isn't one that the list doesn't have
differs : (names : List (List ℕ)) (name other : List ℕ) (b : Bool) → bytes_eq name other ≡ b → has_name names other ≡ false → has_name names name ≡ true → b ≡ false
differs names name other false q absent there = refl
differs names name other true q absent there =
    absurd (false≢true (sym absent ∙ ap (has_name names) (sym ((bytes_eq-Decides name other).0 q)) ∙ there))

-- a name that was taken is none of the functions that come
untaken : (sorts functions : List (List ℕ)) (xs : List Declared) (name : List ℕ) → first_taken (record { sorts = sorts; functions = functions }) xs ≡ None
    → has_name functions name ≡ true → has_name (functions_in xs) name ≡ false
untaken sorts functions [] name e h = refl
untaken sorts functions (Declared.of_sort other ∷ xs) name e h =
    untaken (sorts ++ other ∷ []) functions xs name (cond_none (has_name sorts other) other (first_taken (record { sorts = sorts ++ other ∷ []; functions = functions }) xs) e).1 h
untaken sorts functions (Declared.of_function other ∷ xs) name e h =
    let c = cond_none (has_name functions other) other (first_taken (record { sorts = sorts; functions = functions ++ other ∷ [] }) xs) e in
    let more = list_any-append (bytes_eq name) functions (other ∷ []) ∙ left_true (has_name functions name) (has_name (other ∷ []) name) h in
    ap (λ b. b || has_name (functions_in xs) name) (differs functions name other (bytes_eq name other) refl c.0 h)
    ∙ untaken sorts (functions ++ other ∷ []) xs name c.1 more

-- what follows of each name of a list
each_name : (p q : List ℕ → Bool) (names : List (List ℕ)) → ((name : List ℕ) → has_name names name ≡ true → p name ≡ true → q name ≡ true) → list_all p names ≡ true → list_all q names ≡ true
each_name p q [] f h = refl
each_name p q (x ∷ names) f h =
    let parts = and_parts (p x) (list_all p names) h in
    and_from (q x) (list_all q names) (f x (left_true (bytes_eq x x) (has_name names x) (same_name x)) parts.0)
    (each_name p q names (λ name there. f name (right_true (bytes_eq name x) (has_name names name) there)) parts.1)

-- where a group isn't refused, the names of predicates are free still
free_kept : (sig : Signature) (group : List DataSpec) (preds : List (List ℕ)) → first_refusal sig group preds ≡ None → list_all (is_free sig) preds ≡ true → list_all (is_free (with_group sig group)) preds ≡ true
free_kept sig group preds none = each_name (is_free sig) (is_free (with_group sig group)) preds free
  where
    none_taken : first_taken (taken_names sig preds) (declared_by group) ≡ None
    none_taken =
        unmapped (λ name. refusal.NameTaken name) (first_taken (taken_names sig preds) (declared_by group))
        (first_of_none (option_map (λ name. refusal.NameTaken name) (first_taken (taken_names sig preds) (declared_by group)))
        (option_or (sort_refusal (names_with sig group) (field_specs group)) (option_map (λ l. refusal.TooMany l) (limit_passed sig group))) none)

    absent : (name : List ℕ) → has_name preds name ≡ true → has_name (function_names sig) name ≡ false → has_name (function_names (with_group sig group)) name ≡ false
    absent name there before =
        ap (λ (l : List (List ℕ)). has_name l name) (functions_with sig group ∙ ap (λ (l : List (List ℕ)). function_names sig ++ l) (sym (in_group (names_with sig group) group)))
        ∙ list_any-append (bytes_eq name) (function_names sig) (functions_in (declared_by group))
        ∙ ap (λ b. b || has_name (functions_in (declared_by group)) name) before
        ∙ untaken (fixed_sorts ++ datatype_names sig) (fixed_functions ++ function_names sig ++ preds) (declared_by group) name none_taken
        (list_any-append (bytes_eq name) (fixed_functions ++ function_names sig) preds ∙ right_true (has_name (fixed_functions ++ function_names sig) name) (has_name preds name) there)

    free : (name : List ℕ) → has_name preds name ≡ true → is_free sig name ≡ true → is_free (with_group sig group) name ≡ true
    free name there h =
        let parts = and_parts (not (is_fixed_name name)) (not (has_name (function_names sig) name)) h in
        and_from (not (is_fixed_name name)) (not (has_name (function_names (with_group sig group)) name)) parts.0
        (ap not (absent name there (not_true (has_name (function_names sig) name) parts.1)))

-- the names that a group adds can be written
fields_writable : (names : List (List ℕ)) (fs : List FieldSpec) → list_all (λ (f : FieldSpec). is_writable_name f.name) fs ≡ true → list_all is_writable_name (map (λ (f : Field). f.name) (map (field_declared names) fs)) ≡ true
fields_writable names [] h = refl
fields_writable names (f ∷ fs) h =
    let parts = and_parts (is_writable_name f.name) (list_all (λ (f : FieldSpec). is_writable_name f.name) fs) h in
    and_from (is_writable_name f.name) (list_all is_writable_name (map (λ (f : Field). f.name) (map (field_declared names) fs))) parts.0 (fields_writable names fs parts.1)

ctors_writable : (names : List (List ℕ)) (ks : List CtorSpec) → list_all is_writable_ctor ks ≡ true → list_all is_writable_name (flat_map ctor_names (map (ctor_declared names) ks)) ≡ true
ctors_writable names [] h = refl
ctors_writable names (k ∷ ks) h =
    let parts = and_parts (is_writable_ctor k) (list_all is_writable_ctor ks) h in
    let own = and_parts (is_writable_name k.name) (list_all (λ (f : FieldSpec). is_writable_name f.name) k.fields) parts.0 in
    list_all-append is_writable_name (ctor_names (ctor_declared names k)) (flat_map ctor_names (map (ctor_declared names) ks))
    ∙ and_from (list_all is_writable_name (ctor_names (ctor_declared names k))) (list_all is_writable_name (flat_map ctor_names (map (ctor_declared names) ks)))
    (and_from (is_writable_name k.name) (list_all is_writable_name (map (λ (f : Field). f.name) (map (field_declared names) k.fields))) own.0 (fields_writable names k.fields own.1))
    (ctors_writable names ks parts.1)

functions_writable : (names : List (List ℕ)) (group : List DataSpec) → are_writable_specs group ≡ true → list_all is_writable_name (flat_map data_names (map (data_declared names) group)) ≡ true
functions_writable names [] h = refl
functions_writable names (t ∷ group) h =
    let parts = and_parts (is_writable_spec t) (are_writable_specs group) h in
    let own = and_parts (is_writable_name t.name) (list_all is_writable_ctor t.ctors) parts.0 in
    list_all-append is_writable_name (data_names (data_declared names t)) (flat_map data_names (map (data_declared names) group))
    ∙ and_from (list_all is_writable_name (data_names (data_declared names t))) (list_all is_writable_name (flat_map data_names (map (data_declared names) group)))
    (ctors_writable names t.ctors own.1) (functions_writable names group parts.1)

sorts_writable : (names : List (List ℕ)) (group : List DataSpec) → are_writable_specs group ≡ true → list_all is_writable_name (map (λ (t : Data). t.name) (map (data_declared names) group)) ≡ true
sorts_writable names [] h = refl
sorts_writable names (t ∷ group) h =
    let parts = and_parts (is_writable_spec t) (are_writable_specs group) h in
    and_from (is_writable_name t.name) (list_all is_writable_name (map (λ (t : Data). t.name) (map (data_declared names) group)))
    (and_parts (is_writable_name t.name) (list_all is_writable_ctor t.ctors) parts.0).0 (sorts_writable names group parts.1)

-- lists that can be written one after the other, and as one
joined_writable : (xs ys : List (List ℕ)) → list_all is_writable_name xs ≡ true → list_all is_writable_name ys ≡ true → list_all is_writable_name (xs ++ ys) ≡ true
joined_writable xs ys h k = list_all-append is_writable_name xs ys ∙ and_from (list_all is_writable_name xs) (list_all is_writable_name ys) h k

writable_parts : (xs ys : List (List ℕ)) → list_all is_writable_name (xs ++ ys) ≡ true → (list_all is_writable_name xs ≡ true) × (list_all is_writable_name ys ≡ true)
writable_parts xs ys h = and_parts (list_all is_writable_name xs) (list_all is_writable_name ys) (sym (list_all-append is_writable_name xs ys) ∙ h)

signature_kept : (sig : Signature) (group : List DataSpec) → are_writable_specs group ≡ true → list_all is_writable_name (signature_names sig) ≡ true → list_all is_writable_name (signature_names (with_group sig group)) ≡ true
signature_kept sig group new old =
    let parts = writable_parts (datatype_names sig) (function_names sig) old in
    joined_writable (datatype_names (with_group sig group)) (function_names (with_group sig group)) (sorts parts.0) (functions parts.1)
  where
    sorts : list_all is_writable_name (datatype_names sig) ≡ true → list_all is_writable_name (datatype_names (with_group sig group)) ≡ true
    sorts h =
        ap (list_all is_writable_name) (map-append (λ (t : Data). t.name) sig.datatypes (map (data_declared (names_with sig group)) group))
        ∙ joined_writable (datatype_names sig) (map (λ (t : Data). t.name) (map (data_declared (names_with sig group)) group)) h (sorts_writable (names_with sig group) group new)

    functions : list_all is_writable_name (function_names sig) ≡ true → list_all is_writable_name (function_names (with_group sig group)) ≡ true
    functions h =
        ap (list_all is_writable_name) (functions_with sig group)
        ∙ joined_writable (function_names sig) (flat_map data_names (map (data_declared (names_with sig group)) group)) h (functions_writable (names_with sig group) group new)

-- the names when a group comes
pub named_group : (sig : Signature) (group : List DataSpec) (names : List (List ℕ)) → first_refusal sig group names ≡ None → are_writable_specs group ≡ true → AreNamed sig names → AreNamed (with_group sig group) names
named_group sig group names none new kept = record {
  apart = kept.apart;
  free = free_kept sig group names none kept.free;
  writable = kept.writable;
  signature_writable = signature_kept sig group new kept.signature_writable;
}

-- a name that isn't taken is free, and no predicate has it
pub not_taken : (sig : Signature) (names : List (List ℕ)) (name : List ℕ) → has_name (fixed_functions ++ function_names sig ++ names) name ≡ false → (is_free sig name ≡ true) × (has_name names name ≡ false)
not_taken sig names name h =
    let outer = either_false (has_name (fixed_functions ++ function_names sig) name) (has_name names name) (sym (list_any-append (bytes_eq name) (fixed_functions ++ function_names sig) names) ∙ h) in
    let inner = either_false (has_name fixed_functions name) (has_name (function_names sig) name) (sym (list_any-append (bytes_eq name) fixed_functions (function_names sig)) ∙ outer.0) in
    (and_from (not (is_fixed_name name)) (not (has_name (function_names sig) name)) (ap not inner.0) (ap not inner.1), outer.1)

-- the names with one more predicate
pub named_predicate : (sig : Signature) (names : List (List ℕ)) (name : List ℕ) → has_name (fixed_functions ++ function_names sig ++ names) name ≡ false → is_writable_name name ≡ true → AreNamed sig names → AreNamed sig (names ++ name ∷ [])
named_predicate sig names name new written kept =
    let parts = not_taken sig names name new in
    record {
      apart = apart_push names name kept.apart parts.1;
      free = all_more (is_free sig) names name kept.free parts.0;
      writable = all_more is_writable_name names name kept.writable written;
      signature_writable = kept.signature_writable;
    }

-- names that stand apart stand at one place each
has_at : (names : List (List ℕ)) (i : ℕ) (name : List ℕ) → slice_get names i ≡ Some name → has_name names name ≡ true
has_at [] i name h = absurd (none-some name h)
has_at (x ∷ names) zero name h = left_true (bytes_eq name x) (has_name names name) (ap (bytes_eq name) (same_Some x name h) ∙ same_name name)
has_at (x ∷ names) (suc i) name h = right_true (bytes_eq name x) (has_name names name) (has_at names i name h)

not_twice : (x : List ℕ) (names : List (List ℕ)) (i : ℕ) (name : List ℕ) → has_name names x ≡ false → x ≡ name → slice_get names i ≡ Some name → ⊥
not_twice x names i name h e at = false≢true (sym h ∙ ap (has_name names) e ∙ has_at names i name at)

one_place : (names : List (List ℕ)) → are_apart names ≡ true → (i j : ℕ) (name : List ℕ) → slice_get names i ≡ Some name → slice_get names j ≡ Some name → i ≡ j
one_place [] h i j name at there = absurd (none-some name at)
one_place (x ∷ names) h zero zero name at there = refl
one_place (x ∷ names) h zero (suc j) name at there =
    absurd (not_twice x names j name (not_true (has_name names x) (and_parts (not (has_name names x)) (are_apart names) h).0) (same_Some x name at) there)
one_place (x ∷ names) h (suc i) zero name at there =
    absurd (not_twice x names i name (not_true (has_name names x) (and_parts (not (has_name names x)) (are_apart names) h).0) (same_Some x name there) at)
one_place (x ∷ names) h (suc i) (suc j) name at there =
    ap suc (one_place names (and_parts (not (has_name names x)) (are_apart names) h).1 i j name at there)

-- the names are those of a state over the signature
pub names_of_state : (s : StateView) (names : List (List ℕ)) (decls : List PredDecl) → s.preds ≡ decls → length names ≡ length decls → AreNamed s.sig names → AreNamesOf s names
names_of_state s names decls same counts kept = record {
  few = fewer;
  apart = one_place names kept.apart;
  free = kept.free;
  writable = joined_writable names (signature_names s.sig) kept.writable kept.signature_writable;
}
  where
    fewer : length names ≤ length s.preds
    fewer = omega (arith, counts, ap (λ (l : List PredDecl). length l) same)
