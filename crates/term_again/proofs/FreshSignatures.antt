-- The names of a signature that groups make differ, and none is fixed.
use Rattle.std.proofs.Common.{◌≡◌, ◌∙◌, sym, ap, refl, ℕ, Bool, true, false, not, ◌||◌, cond, List, [], ◌∷◌, ◌++◌, map, Option, Some, None, option_map}
use Rattle.std.specs.Prelude.{is_some}
use Rattle.std.specs.List.{list_all, flat_map}
use Rattle.std.specs.Option.{option_or}
use Rattle.std.specs.Str.{bytes_eq}
use Rattle.std.proofs.Math.Logic.{∥∥₁_elim}
use Rattle.std.proofs.Props.{props}
use Rattle.std.proofs.lemmas.Bool.{false≢true, and_parts, and_from}
use Rattle.std.proofs.lemmas.List.{map-append}
use Rattle.std.proofs.lemmas.List.Folds.{list_any-append, list_all-append}
use Rattle.chc_sorts.specs.declared.data.Data.{Data}
use Rattle.chc_sorts.specs.declared.data.Field.{Field}
use Rattle.chc_sorts.specs.declared.refusal.SigErr.TheVariants as refusal
use Rattle.chc_sorts.specs.declared.spec.FieldSpec.{FieldSpec}
use Rattle.chc_sorts.specs.declared.spec.CtorSpec.{CtorSpec}
use Rattle.chc_sorts.specs.declared.spec.DataSpec.{DataSpec}
use Rattle.chc_sorts.specs.Signature.{Signature}
use Rattle.chc_sorts.specs.Made.{IsMade}
use Rattle.chc_sorts.specs.Names.{has_name}
use Rattle.chc_sorts.specs.Functions.{function_names}
use Rattle.chc_sorts.specs.Listing.{ctor_names, data_names}
use Rattle.chc_sorts.specs.Named.{datatype_names}
use Rattle.chc_sorts.specs.Groups.{Declared, ctor_declares, data_declares, declared_by, data_declared, ctor_declared, field_declared, names_with, with_group, first_taken, first_refusal, taken_names, fixed_functions, fixed_sorts, sort_refusal, field_specs, limit_passed}
use Rattle.chc_elab.specs.Apart.{are_apart}
use Rattle.chc_elab.proofs.Locals.{either_false, not_true, turned}
use Rattle.term_again.specs.Naming.{AreFresh, MadeIsFresh}
use Rattle.term_again.proofs.FunctionNames.{functions_with}

-- ---- names that are declared

-- the sorts among names that are declared
abbrev sorts_in : List Declared → List (List ℕ)
sorts_in [] = []
sorts_in (Declared.of_sort name ∷ xs) = name ∷ sorts_in xs
sorts_in (Declared.of_function name ∷ xs) = sorts_in xs

-- the functions among them
abbrev functions_in : List Declared → List (List ℕ)
functions_in [] = []
functions_in (Declared.of_sort name ∷ xs) = functions_in xs
functions_in (Declared.of_function name ∷ xs) = name ∷ functions_in xs

sorts_in-append : (xs ys : List Declared) → sorts_in (xs ++ ys) ≡ sorts_in xs ++ sorts_in ys
sorts_in-append [] ys = refl
sorts_in-append (Declared.of_sort name ∷ xs) ys = ap (λ l. name ∷ l) (sorts_in-append xs ys)
sorts_in-append (Declared.of_function name ∷ xs) ys = sorts_in-append xs ys

functions_in-append : (xs ys : List Declared) → functions_in (xs ++ ys) ≡ functions_in xs ++ functions_in ys
functions_in-append [] ys = refl
functions_in-append (Declared.of_sort name ∷ xs) ys = functions_in-append xs ys
functions_in-append (Declared.of_function name ∷ xs) ys = ap (λ l. name ∷ l) (functions_in-append xs ys)

no_sort_in_fields : (fs : List FieldSpec) → sorts_in (map (λ (f : FieldSpec). Declared.of_function f.name) fs) ≡ []
no_sort_in_fields [] = refl
no_sort_in_fields (f ∷ fs) = no_sort_in_fields fs

no_sort_in_ctors : (ks : List CtorSpec) → sorts_in (flat_map ctor_declares ks) ≡ []
no_sort_in_ctors [] = refl
no_sort_in_ctors (k ∷ ks) =
    sorts_in-append (ctor_declares k) (flat_map ctor_declares ks) ∙ ap (λ l. l ++ sorts_in (flat_map ctor_declares ks)) (no_sort_in_fields k.fields) ∙ no_sort_in_ctors ks

sorts_in_group : (names : List (List ℕ)) (group : List DataSpec) → sorts_in (declared_by group) ≡ map (λ (t : Data). t.name) (map (data_declared names) group)
sorts_in_group names [] = refl
sorts_in_group names (t ∷ group) =
    sorts_in-append (data_declares t) (declared_by group)
    ∙ ap (λ l. (t.name ∷ l) ++ sorts_in (declared_by group)) (no_sort_in_ctors t.ctors)
    ∙ ap (λ l. t.name ∷ l) (sorts_in_group names group)

in_fields : (names : List (List ℕ)) (fs : List FieldSpec) → functions_in (map (λ (f : FieldSpec). Declared.of_function f.name) fs) ≡ map (λ (f : Field). f.name) (map (field_declared names) fs)
in_fields names [] = refl
in_fields names (f ∷ fs) = ap (λ l. f.name ∷ l) (in_fields names fs)

in_ctors : (names : List (List ℕ)) (ks : List CtorSpec) → functions_in (flat_map ctor_declares ks) ≡ flat_map ctor_names (map (ctor_declared names) ks)
in_ctors names [] = refl
in_ctors names (k ∷ ks) =
    functions_in-append (ctor_declares k) (flat_map ctor_declares ks)
    ∙ ap (λ l. (k.name ∷ l) ++ functions_in (flat_map ctor_declares ks)) (in_fields names k.fields)
    ∙ ap (λ l. ctor_names (ctor_declared names k) ++ l) (in_ctors names ks)

functions_in_group : (names : List (List ℕ)) (group : List DataSpec) → functions_in (declared_by group) ≡ flat_map data_names (map (data_declared names) group)
functions_in_group names [] = refl
functions_in_group names (t ∷ group) =
    functions_in-append (data_declares t) (declared_by group)
    ∙ ap (λ l. l ++ functions_in (declared_by group)) (in_ctors names t.ctors)
    ∙ ap (λ l. data_names (data_declared names t) ++ l) (functions_in_group names group)

-- ---- new names

-- none of the names is among those
abbrev are_new : List (List ℕ) → List (List ℕ) → Bool
are_new before names = list_all (λ name. not (has_name before name)) names

never : {A : Type 0} (x : A) → ◌≡◌ {A = Option A} (Some x) None → ⊥
never x h = false≢true (sym (ap is_some h))

cond_none : {A : Type 0} (b : Bool) (x : A) (o : Option A) → cond b (Some x) o ≡ None → (b ≡ false) × (o ≡ None)
cond_none true x o e = absurd (never x e)
cond_none false x o e = (refl, e)

or_none : {A : Type 0} (a b : Option A) → option_or a b ≡ None → a ≡ None
or_none None b e = refl
or_none (Some x) b e = absurd (never x e)

unmapped : {A B : Type 0} (f : A → B) (o : Option A) → option_map f o ≡ None → o ≡ None
unmapped f None e = refl
unmapped f (Some x) e = absurd (never (f x) e)

-- names that are new behind some are new behind the first of these, and behind the others
new_parts : (xs ys names : List (List ℕ)) → are_new (xs ++ ys) names ≡ true → (are_new xs names ≡ true) × (are_new ys names ≡ true)
new_parts xs ys [] h = (refl, refl)
new_parts xs ys (name ∷ names) h =
    let parts = and_parts (not (has_name (xs ++ ys) name)) (are_new (xs ++ ys) names) h in
    let both = either_false (has_name xs name) (has_name ys name) (sym (list_any-append (bytes_eq name) xs ys) ∙ not_true (has_name (xs ++ ys) name) parts.0) in
    let rest = new_parts xs ys names parts.1 in (
      and_from (not (has_name xs name)) (are_new xs names) (ap not both.0) rest.0,
      and_from (not (has_name ys name)) (are_new ys names) (ap not both.1) rest.1,
    )

-- a name behind which others are new isn't among them
not_among : (name : List ℕ) (names : List (List ℕ)) → are_new (name ∷ []) names ≡ true → has_name names name ≡ false
not_among name [] h = refl
not_among name (other ∷ names) h =
    let parts = and_parts (not (has_name (name ∷ []) other)) (are_new (name ∷ []) names) h in
    let differs = either_false (bytes_eq other name) false (not_true (has_name (name ∷ []) other) parts.0) in
    ap (λ b. b || has_name names name) (turned other name differs.0) ∙ not_among name names parts.1

-- names that differ, and are new behind names that do
apart_join : (xs ys : List (List ℕ)) → are_apart xs ≡ true → are_apart ys ≡ true → are_new xs ys ≡ true → are_apart (xs ++ ys) ≡ true
apart_join [] ys h k new = k
apart_join (x ∷ xs) ys h k new =
    let parts = and_parts (not (has_name xs x)) (are_apart xs) h in
    let news = new_parts (x ∷ []) xs ys new in
    let absent : has_name (xs ++ ys) x ≡ false =
    list_any-append (bytes_eq x) xs ys ∙ ap (λ b. b || has_name ys x) (not_true (has_name xs x) parts.0) ∙ not_among x ys news.0 in
    and_from (not (has_name (xs ++ ys) x)) (are_apart (xs ++ ys)) (ap not absent) (apart_join xs ys parts.1 k news.1)

-- names that differ, none of which is among those
record AreNew (before names : List (List ℕ)) : Type 0 where
  new : are_new before names ≡ true
  apart : are_apart names ≡ true

one_more_new : (before names : List (List ℕ)) (name : List ℕ) → has_name before name ≡ false → AreNew (before ++ name ∷ []) names → AreNew before (name ∷ names)
one_more_new before names name absent more =
    let news = new_parts before (name ∷ []) names more.new in
    record {
      new = and_from (not (has_name before name)) (are_new before names) (ap not absent) news.0;
      apart = and_from (not (has_name names name)) (are_apart names) (ap not (not_among name names news.1)) more.apart;
    }

-- names of which none is taken are new
untaken : (sorts functions : List (List ℕ)) (xs : List Declared) → first_taken (record { sorts = sorts; functions = functions }) xs ≡ None → AreNew sorts (sorts_in xs) × AreNew functions (functions_in xs)
untaken sorts functions [] h = (record { new = refl; apart = refl }, record { new = refl; apart = refl })
untaken sorts functions (Declared.of_sort name ∷ xs) h =
    let c = cond_none (has_name sorts name) name (first_taken (record { sorts = sorts ++ name ∷ []; functions = functions }) xs) h in
    let rest = untaken (sorts ++ name ∷ []) functions xs c.1 in
    (one_more_new sorts (sorts_in xs) name c.0 rest.0, rest.1)
untaken sorts functions (Declared.of_function name ∷ xs) h =
    let c = cond_none (has_name functions name) name (first_taken (record { sorts = sorts; functions = functions ++ name ∷ [] }) xs) h in
    let rest = untaken sorts (functions ++ name ∷ []) xs c.1 in
    (rest.0, one_more_new functions (functions_in xs) name c.0 rest.1)

-- a signature stays fresh with a group that isn't refused
pub fresh_with_group : (sig : Signature) (group : List DataSpec) (preds : List (List ℕ)) → first_refusal sig group preds ≡ None → AreFresh sig → AreFresh (with_group sig group)
fresh_with_group sig group preds none fresh =
    let free : first_taken (taken_names sig preds) (declared_by group) ≡ None =
    unmapped (λ name. refusal.NameTaken name) (first_taken (taken_names sig preds) (declared_by group))
    (or_none (option_map (λ name. refusal.NameTaken name) (first_taken (taken_names sig preds) (declared_by group)))
    (option_or (sort_refusal (names_with sig group) (field_specs group)) (option_map (λ l. refusal.TooMany l) (limit_passed sig group))) none) in
    let found = untaken (fixed_sorts ++ datatype_names sig) (fixed_functions ++ function_names sig ++ preds) (declared_by group) free in
    let datas = map (data_declared (names_with sig group)) group in
    let sorts : datatype_names (with_group sig group) ≡ datatype_names sig ++ sorts_in (declared_by group) =
    map-append (λ (t : Data). t.name) sig.datatypes datas ∙ ap (λ l. datatype_names sig ++ l) (sym (sorts_in_group (names_with sig group) group)) in
    let functions : function_names (with_group sig group) ≡ function_names sig ++ functions_in (declared_by group) =
    functions_with sig group ∙ ap (λ l. function_names sig ++ l) (sym (functions_in_group (names_with sig group) group)) in
    let new_sorts = new_parts fixed_sorts (datatype_names sig) (sorts_in (declared_by group)) found.0.new in
    let old_functions = new_parts (fixed_functions ++ function_names sig) preds (functions_in (declared_by group)) found.1.new in
    let new_functions = new_parts fixed_functions (function_names sig) (functions_in (declared_by group)) old_functions.0 in
    record {
      sorts_apart = ap are_apart sorts ∙ apart_join (datatype_names sig) (sorts_in (declared_by group)) fresh.sorts_apart found.0.apart new_sorts.1;
      sorts_free = ap (are_new fixed_sorts) sorts ∙ list_all-append (λ name. not (has_name fixed_sorts name)) (datatype_names sig) (sorts_in (declared_by group))
          ∙ and_from (are_new fixed_sorts (datatype_names sig)) (are_new fixed_sorts (sorts_in (declared_by group))) fresh.sorts_free new_sorts.0;
      functions_apart = ap are_apart functions ∙ apart_join (function_names sig) (functions_in (declared_by group)) fresh.functions_apart found.1.apart new_functions.1;
      functions_free = ap (are_new fixed_functions) functions ∙ list_all-append (λ name. not (has_name fixed_functions name)) (function_names sig) (functions_in (declared_by group))
          ∙ and_from (are_new fixed_functions (function_names sig)) (are_new fixed_functions (functions_in (declared_by group))) fresh.functions_free new_functions.0;
    }

-- ---- every signature that can be made

fresh_of : (sig : Signature) → IsMade sig → AreFresh sig
fresh_of _ IsMade.empty = record { sorts_apart = refl; sorts_free = refl; functions_apart = refl; functions_free = refl }
fresh_of _ (IsMade.more sig group preds before free valued) = fresh_with_group sig group preds free (fresh_of sig before)

pub made_is_fresh : MadeIsFresh
made_is_fresh sig can = record {
  sorts_apart = ∥∥₁_elim can (hlevel props) (λ m. (fresh_of sig m).sorts_apart);
  sorts_free = ∥∥₁_elim can (hlevel props) (λ m. (fresh_of sig m).sorts_free);
  functions_apart = ∥∥₁_elim can (hlevel props) (λ m. (fresh_of sig m).functions_apart);
  functions_free = ∥∥₁_elim can (hlevel props) (λ m. (fresh_of sig m).functions_free);
}
