-- The names of a signature whose names differ and aren't fixed: each means what it names.
use Rattle.std.proofs.Common.{◌≡◌, ◌∙◌, ◌⊎◌, inl, inr, sym, ap, refl, subst, ℕ, zero, suc, ◌+◌, Bool, true, false, not, ◌&&◌, ◌||◌, cond, nat_lt, nat_eq, List, [], ◌∷◌, ◌++◌, length, map, Option, Some, None, slice_get, option_map, codes, append_assoc, arith}
use Rattle.std.specs.List.{list_all, list_any, position_or_len, flat_map}
use Rattle.std.specs.Str.{bytes_eq}
use Rattle.std.proofs.lemmas.Bool.{false≢true, and_parts, and_from, lt-ltb}
use Rattle.std.proofs.lemmas.List.{map-append}
use Rattle.std.proofs.lemmas.List.Folds.{list_any-append, list_all-append}
use Rattle.std.proofs.lemmas.Option.{slice_get_within}
use Rattle.std.proofs.lemmas.Slice.Eq.{bytes_eq-Decides}
use Rattle.chc_sorts.specs.declared.data.Data.{Data}
use Rattle.chc_sorts.specs.declared.data.Ctor.{Ctor}
use Rattle.chc_sorts.specs.declared.data.Field.{Field}
use Rattle.chc_sorts.specs.declared.meaning.Meaning.{Meaning}
use Rattle.chc_sorts.specs.declared.meaning.Meaning.TheVariants as meaning
use Rattle.chc_sorts.specs.declared.sort.Sort.TheVariants as sort
use Rattle.chc_sorts.specs.Names.{has_name, number_of, look_up, each_from}
use Rattle.chc_sorts.specs.Named.{datatype_names, sort_named}
use Rattle.chc_sorts.specs.Operators.{operator_rows, op_named}
use Rattle.chc_sorts.specs.Functions.{functions_of, functions, function_names}
use Rattle.chc_sorts.specs.Groups.{fixed_sorts, fixed_functions}
use Rattle.chc_sorts.specs.Signature.{Signature}
use Rattle.chc_sexpr.specs.Spelling.{is_quotable}
use Rattle.chc_state.specs.Names.{is_writable_name, signature_names}
use Rattle.chc_print.specs.Prefix.{ctor_names, used_names, begins_numbered, is_taken}
use Rattle.chc_elab.specs.Apart.{are_apart}
use Rattle.chc_elab.specs.Sites.{literal_named}
use Rattle.chc_elab.proofs.Locals.{either_false, not_true, turned}
use Rattle.term_again.specs.Naming.{NamesSort, NamesFunction, NamesAreRead, AreFresh}

-- ---- rows of a table

right_true : (a b : Bool) → b ≡ true → (a || b) ≡ true
right_true true b h = refl
right_true false b h = h

refuted : (b : Bool) → (b ≡ true → ⊥) → b ≡ false
refuted true h = absurd (h refl)
refuted false h = refl

module _ {X : Type 0} where
  -- the table has that row
  abbrev pub HasRow : List (List ℕ × X) → List ℕ → X → Type 0
  HasRow [] name x = ⊥
  HasRow (row ∷ rows) name x = (row ≡ (name, x)) ⊎ HasRow rows name x

  abbrev pub row_names : List (List ℕ × X) → List (List ℕ)
  row_names = map (λ (row : List ℕ × X). row.0)

  row_left : (rows more : List (List ℕ × X)) (name : List ℕ) (x : X) → HasRow rows name x → HasRow (rows ++ more) name x
  row_left [] more name x h = absurd h
  row_left (row ∷ rows) more name x (inl e) = inl e
  row_left (row ∷ rows) more name x (inr h) = inr (row_left rows more name x h)

  row_right : (rows more : List (List ℕ × X)) (name : List ℕ) (x : X) → HasRow more name x → HasRow (rows ++ more) name x
  row_right [] more name x h = h
  row_right (row ∷ rows) more name x h = inr (row_right rows more name x h)

  -- a row of the list that an item gives
  each_row : {A : Type 0} (f : ℕ → A → List (List ℕ × X)) (n : ℕ) (items : List A) (i : ℕ) (a : A) (name : List ℕ) (x : X)
      → slice_get items i ≡ Some a → HasRow (f (n + i) a) name x → HasRow (each_from f n items) name x
  each_row f n [] i a name x at h = cc
  each_row f n (b ∷ items) zero a name x at h =
      let same : b ≡ a = cc in
      let here : n + 0 ≡ n = omega arith in
      row_left (f n b) (each_from f (suc n) items) name x (subst (λ (c : _). HasRow (f n c) name x) (sym same) (subst (λ m. HasRow (f m a) name x) here h))
  each_row f n (b ∷ items) (suc i) a name x at h =
      let there : n + suc i ≡ suc n + i = omega arith in
      row_right (f n b) (each_from f (suc n) items) name x (each_row f (suc n) items i a name x at (subst (λ m. HasRow (f m a) name x) there h))

  in_names : (rows : List (List ℕ × X)) (name : List ℕ) (x : X) → HasRow rows name x → has_name (row_names rows) name ≡ true
  in_names [] name x h = absurd h
  in_names (row ∷ rows) name x (inl e) = ap (λ b. b || has_name (row_names rows) name) ((bytes_eq-Decides name row.0).1 (ap (λ (r : List ℕ × X). r.0) (sym e)))
  in_names (row ∷ rows) name x (inr h) = right_true (bytes_eq name row.0) (has_name (row_names rows) name) (in_names rows name x h)

  -- where names differ, a row stands under its name
  found_row : (rows : List (List ℕ × X)) (name : List ℕ) (x : X) → are_apart (row_names rows) ≡ true → HasRow rows name x → look_up rows name ≡ Some x
  found_row [] name x apart h = absurd h
  found_row (row ∷ rows) name x apart (inl e) =
      ap (λ b. cond b (Some row.1) (look_up rows name)) ((bytes_eq-Decides row.0 name).1 (ap (λ (r : List ℕ × X). r.0) e)) ∙ ap (λ (r : List ℕ × X). Some r.1) e
  found_row (row ∷ rows) name x apart (inr h) =
      let parts = and_parts (not (has_name (row_names rows) row.0)) (are_apart (row_names rows)) apart in
      let absent = not_true (has_name (row_names rows) row.0) parts.0 in
      ap (λ b. cond b (Some row.1) (look_up rows name))
      (refuted (bytes_eq row.0 name) (λ e. false≢true (sym absent ∙ ap (has_name (row_names rows)) ((bytes_eq-Decides row.0 name).0 e) ∙ in_names rows name x h)))
      ∙ found_row rows name x parts.1 h

  -- a test that all names pass
  row_passes : (p : List ℕ → Bool) (rows : List (List ℕ × X)) (name : List ℕ) (x : X) → list_all p (row_names rows) ≡ true → HasRow rows name x → p name ≡ true
  row_passes p [] name x all h = absurd h
  row_passes p (row ∷ rows) name x all (inl e) = ap (λ (r : List ℕ × X). p r.0) (sym e) ∙ (and_parts (p row.0) (list_all p (row_names rows)) all).0
  row_passes p (row ∷ rows) name x all (inr h) = row_passes p rows name x (and_parts (p row.0) (list_all p (row_names rows)) all).1 h

  -- a name that no row has
  pub unfound : (rows : List (List ℕ × X)) (name : List ℕ) → has_name (row_names rows) name ≡ false → look_up rows name ≡ None
  unfound [] name h = refl
  unfound (row ∷ rows) name h =
      let parts = either_false (bytes_eq name row.0) (has_name (row_names rows) name) h in
      ap (λ b. cond b (Some row.1) (look_up rows name)) (turned name row.0 parts.0) ∙ unfound rows name parts.1

-- ---- constructors and selectors

field_row : (d c : ℕ) (fs : List Field) (i : ℕ) (f : Field) → slice_get fs i ≡ Some f → HasRow (each_from (λ i (f : Field). (f.name, meaning.Get d c i) ∷ []) 0 fs) f.name (meaning.Get d c i)
field_row d c fs i f at =
    let here : 0 + i ≡ i = omega arith in
    each_row (λ i (f : Field). (f.name, meaning.Get d c i) ∷ []) 0 fs i f f.name (meaning.Get d c i) at (inl (ap (λ n. (f.name, meaning.Get d c n)) here))

ctor_row : (sig : Signature) (d c : ℕ) (t : Data) (k : Ctor) (name : List ℕ) (m : Meaning) → slice_get sig.datatypes d ≡ Some t → slice_get t.ctors c ≡ Some k → HasRow (functions_of d c k) name m → HasRow (functions sig) name m
ctor_row sig d c t k name m there at h =
    let first : 0 + d ≡ d = omega arith in
    let second : 0 + c ≡ c = omega arith in
    each_row (λ d (t : Data). each_from (functions_of d) 0 t.ctors) 0 sig.datatypes d t name m there
    (subst (λ n. HasRow (each_from (functions_of n) 0 t.ctors) name m) (sym first)
    (each_row (functions_of d) 0 t.ctors c k name m at (subst (λ n. HasRow (functions_of d n k) name m) (sym second) h)))

make_row : (sig : Signature) (d c : ℕ) (t : Data) (k : Ctor) → slice_get sig.datatypes d ≡ Some t → slice_get t.ctors c ≡ Some k → HasRow (functions sig) k.name (meaning.Make d c)
make_row sig d c t k there at = ctor_row sig d c t k k.name (meaning.Make d c) there at (inl refl)

get_row : (sig : Signature) (d c i : ℕ) (t : Data) (k : Ctor) (f : Field) → slice_get sig.datatypes d ≡ Some t → slice_get t.ctors c ≡ Some k → slice_get k.fields i ≡ Some f → HasRow (functions sig) f.name (meaning.Get d c i)
get_row sig d c i t k f there at field = ctor_row sig d c t k f.name (meaning.Get d c i) there at (inr (field_row d c k.fields i f field))

-- ---- names that aren't fixed

pub unfixed_operator : (name : List ℕ) → has_name fixed_functions name ≡ false → op_named name ≡ None
unfolding fixed_functions
unfixed_operator name h =
    let first = either_false (bytes_eq name (codes "true")) (has_name (codes "false" ∷ row_names operator_rows) name) h in
    unfound operator_rows name (either_false (bytes_eq name (codes "false")) (has_name (row_names operator_rows) name) first.1).1

pub unfixed_literal : (name : List ℕ) → has_name fixed_functions name ≡ false → literal_named name ≡ None
unfolding fixed_functions
unfixed_literal name h =
    let first = either_false (bytes_eq name (codes "true")) (has_name (codes "false" ∷ row_names operator_rows) name) h in
    let second = either_false (bytes_eq name (codes "false")) (has_name (row_names operator_rows) name) first.1 in
    rw (first.0, second.0) refl

unfixed_sort : (names : List (List ℕ)) (name : List ℕ) (o : Option ℕ) → has_name fixed_sorts name ≡ false → number_of names name ≡ o → sort_named names name ≡ option_map (λ d. sort.Data d) o
unfolding fixed_sorts
unfixed_sort names name o h e =
    let first = either_false (bytes_eq name (codes "Bool")) (has_name (codes "Int" ∷ codes "Array" ∷ []) name) h in
    let second = either_false (bytes_eq name (codes "Int")) (has_name (codes "Array" ∷ []) name) first.1 in
    rw (first.0, second.0, e) refl

-- ---- the number of a name

place_is : (names : List (List ℕ)) (i : ℕ) (name : List ℕ) → are_apart names ≡ true → slice_get names i ≡ Some name → position_or_len (bytes_eq name) names ≡ i
place_is [] i name apart h = cc
place_is (x ∷ names) zero name apart h =
    let same : x ≡ name = cc in
    ap (λ t. cond (not t) (1 + position_or_len (bytes_eq name) names) 0) ((bytes_eq-Decides name x).1 (sym same))
place_is (x ∷ names) (suc i) name apart h =
    let parts = and_parts (not (has_name names x)) (are_apart names) apart in
    let absent = not_true (has_name names x) parts.0 in
    ap (λ t. cond (not t) (1 + position_or_len (bytes_eq name) names) 0) (later x names name i absent h)
    ∙ ap (λ n. 1 + n) (place_is names i name parts.1 h) ∙ omega arith
  where
    there : (names : List (List ℕ)) (i : ℕ) (name : List ℕ) → slice_get names i ≡ Some name → has_name names name ≡ true
    there [] i name h = cc
    there (y ∷ names) zero name h = let same : y ≡ name = cc in ap (λ b. b || has_name names name) ((bytes_eq-Decides name y).1 (sym same))
    there (y ∷ names) (suc i) name h = right_true (bytes_eq name y) (has_name names name) (there names i name h)

    later : (x : List ℕ) (names : List (List ℕ)) (name : List ℕ) (i : ℕ) → has_name names x ≡ false → slice_get names i ≡ Some name → bytes_eq name x ≡ false
    later x names name i absent h =
        refuted (bytes_eq name x) (λ e. false≢true (sym absent ∙ ap (has_name names) (sym ((bytes_eq-Decides name x).0 e)) ∙ there names i name h))

number_is : (names : List (List ℕ)) (i : ℕ) (name : List ℕ) → are_apart names ≡ true → slice_get names i ≡ Some name → number_of names name ≡ Some i
number_is names i name apart h =
    ap (λ n. cond (nat_lt n (length names)) (Some n) None) (place_is names i name apart h)
    ∙ ap (λ t. cond t (Some i) None) (lt-ltb i (length names) (slice_get_within names i name h))

-- ---- items of lists

map_at : {A B : Type 0} (f : A → B) (xs : List A) (i : ℕ) (x : A) → slice_get xs i ≡ Some x → slice_get (map f xs) i ≡ Some (f x)
map_at f [] i x h = cc
map_at f (y ∷ xs) zero x h = let same : y ≡ x = cc in ap (λ z. Some (f z)) same
map_at f (y ∷ xs) (suc i) x h = map_at f xs i x h

pub passes_at : {A : Type 0} (p : A → Bool) (xs : List A) (i : ℕ) (x : A) → list_all p xs ≡ true → slice_get xs i ≡ Some x → p x ≡ true
passes_at p [] i x all h = cc
passes_at p (y ∷ xs) zero x all h = let same : y ≡ x = cc in ap p (sym same) ∙ (and_parts (p y) (list_all p xs) all).0
passes_at p (y ∷ xs) (suc i) x all h = passes_at p xs i x (and_parts (p y) (list_all p xs) all).1 h

pub fails_at : {A : Type 0} (p : A → Bool) (xs : List A) (i : ℕ) (x : A) → list_any p xs ≡ false → slice_get xs i ≡ Some x → p x ≡ false
fails_at p [] i x all h = cc
fails_at p (y ∷ xs) zero x all h = let same : y ≡ x = cc in ap p (sym same) ∙ (either_false (p y) (list_any p xs) all).0
fails_at p (y ∷ xs) (suc i) x all h = fails_at p xs i x (either_false (p y) (list_any p xs) all).1 h

any_flat : {A B : Type 0} (p : B → Bool) (f : A → List B) (xs : List A) → list_any p (flat_map f xs) ≡ list_any (λ x. list_any p (f x)) xs
any_flat p f [] = refl
any_flat p f (x ∷ xs) = list_any-append p (f x) (flat_map f xs) ∙ ap (λ b. list_any p (f x) || b) (any_flat p f xs)

-- a constructor's name doesn't begin like a variable, where no name in use does
ctor_unnumbered : (sig : Signature) (preds : List (List ℕ)) (prefix : List ℕ) → is_taken (used_names sig preds) prefix ≡ false
    → (d c : ℕ) (t : Data) (k : Ctor) → slice_get sig.datatypes d ≡ Some t → slice_get t.ctors c ≡ Some k → begins_numbered prefix k.name ≡ false
ctor_unnumbered sig preds prefix free d c t k there at =
    let p : List ℕ → Bool = begins_numbered prefix in
    let ctors : List Ctor = flat_map (λ (t : Data). t.ctors) sig.datatypes in
    let used = either_false (list_any p preds) (list_any p (flat_map ctor_names ctors)) (sym (list_any-append p preds (flat_map ctor_names ctors)) ∙ free) in
    let q : Ctor → Bool = λ k. list_any p (ctor_names k) in
    let each : list_any q ctors ≡ false = sym (any_flat p ctor_names ctors) ∙ used.1 in
    let of_data = fails_at (λ (t : Data). list_any q t.ctors) sig.datatypes d t (sym (any_flat q (λ (t : Data). t.ctors) sig.datatypes) ∙ each) there in
    let of_ctor = fails_at q t.ctors c k of_data at in
    (either_false (p k.name) (list_any p (map (λ (f : Field). f.name) k.fields)) of_ctor).0

-- ---- a front of a list

apart_front : (xs ys : List (List ℕ)) → are_apart (xs ++ ys) ≡ true → are_apart xs ≡ true
apart_front [] ys h = refl
apart_front (x ∷ xs) ys h =
    let parts = and_parts (not (has_name (xs ++ ys) x)) (are_apart (xs ++ ys)) h in
    let absent = sym (list_any-append (bytes_eq x) xs ys) ∙ not_true (has_name (xs ++ ys) x) parts.0 in
    and_from (not (has_name xs x)) (are_apart xs) (ap not (either_false (has_name xs x) (has_name ys x) absent).0) (apart_front xs ys parts.1)

all_front : {A : Type 0} (p : A → Bool) (xs ys : List A) → list_all p (xs ++ ys) ≡ true → list_all p xs ≡ true
all_front p xs ys h = (and_parts (list_all p xs) (list_all p ys) (sym (list_all-append p xs ys) ∙ h)).0

each-append : {X Y : Type 0} (f : ℕ → X → List Y) (n : ℕ) (xs ys : List X) → each_from f n (xs ++ ys) ≡ each_from f n xs ++ each_from f (n + length xs) ys
each-append f n [] ys = ap (λ m. each_from f m ys) (omega arith)
each-append f n (x ∷ xs) ys =
    let next : suc n + length xs ≡ n + length (x ∷ xs) = omega arith in
    ap (λ l. f n x ++ l) (each-append f (suc n) xs ys) ∙ sym (append_assoc (f n x) (each_from f (suc n) xs) (each_from f (suc n + length xs) ys))
    ∙ ap (λ m. (f n x ++ each_from f (suc n) xs) ++ each_from f m ys) next

front_at : {A : Type 0} (xs ys : List A) (i : ℕ) (x : A) → slice_get xs i ≡ Some x → slice_get (xs ++ ys) i ≡ Some x
front_at [] ys i x h = cc
front_at (y ∷ xs) ys zero x h = h
front_at (y ∷ xs) ys (suc i) x h = front_at xs ys i x h

module _ (written read : Signature) (more : List Data) (front : written.datatypes ≡ read.datatypes ++ more) where
  abbrev pub rest_of : List (List ℕ × Meaning)
  rest_of = each_from (λ d (t : Data). each_from (functions_of d) 0 t.ctors) (0 + length read.datatypes) more

  sort_names_front : datatype_names written ≡ datatype_names read ++ map (λ (t : Data). t.name) more
  sort_names_front = ap (map (λ (t : Data). t.name)) front ∙ map-append (λ (t : Data). t.name) read.datatypes more

  pub function_names_front : function_names written ≡ function_names read ++ row_names rest_of
  function_names_front =
      ap (λ ds. row_names (each_from (λ d (t : Data). each_from (functions_of d) 0 t.ctors) 0 ds)) front
      ∙ ap row_names (each-append (λ d (t : Data). each_from (functions_of d) 0 t.ctors) 0 read.datatypes more)
      ∙ map-append (λ (row : List ℕ × Meaning). row.0) (functions read) rest_of

  -- the first datatypes of a fresh signature are one
  pub fresh_front : AreFresh written → AreFresh read
  fresh_front f = record {
    sorts_apart = apart_front (datatype_names read) (map (λ (t : Data). t.name) more) (ap are_apart (sym sort_names_front) ∙ f.sorts_apart);
    sorts_free = all_front (λ name. not (has_name fixed_sorts name)) (datatype_names read) (map (λ (t : Data). t.name) more) (ap (list_all (λ name. not (has_name fixed_sorts name))) (sym sort_names_front) ∙ f.sorts_free);
    functions_apart = apart_front (function_names read) (row_names rest_of) (ap are_apart (sym function_names_front) ∙ f.functions_apart);
    functions_free = all_front (λ name. not (has_name fixed_functions name)) (function_names read) (row_names rest_of) (ap (list_all (λ name. not (has_name fixed_functions name))) (sym function_names_front) ∙ f.functions_free);
  }

  pub writable_front : list_all is_writable_name (signature_names written) ≡ true → (list_all is_writable_name (datatype_names read) ≡ true) × (list_all is_writable_name (function_names read) ≡ true)
  writable_front h =
      let parts = and_parts (list_all is_writable_name (datatype_names written)) (list_all is_writable_name (function_names written)) (sym (list_all-append is_writable_name (datatype_names written) (function_names written)) ∙ h) in (
        all_front is_writable_name (datatype_names read) (map (λ (t : Data). t.name) more) (ap (list_all is_writable_name) (sym sort_names_front) ∙ parts.0),
        all_front is_writable_name (function_names read) (row_names rest_of) (ap (list_all is_writable_name) (sym function_names_front) ∙ parts.1),
      )

-- ---- names that can be written

quotable_byte : (b : ℕ) → (not (nat_eq b 124) && not (nat_eq b 92)) ≡ true → is_quotable b ≡ true
quotable_byte b h = by (nat_eq b 124) (nat_eq b 92) h
  where
    by : (p q : Bool) → (not p && not q) ≡ true → not (p || q) ≡ true
    by true q h = h
    by false q h = h

pub quotable_name : (name : List ℕ) → is_writable_name name ≡ true → list_all is_quotable name ≡ true
quotable_name [] h = refl
quotable_name (b ∷ bs) h =
    let parts = and_parts (not (nat_eq b 124) && not (nat_eq b 92)) (is_writable_name bs) h in
    and_from (is_quotable b) (list_all is_quotable bs) (quotable_byte b parts.0) (quotable_name bs parts.1)

-- ---- all names

module _ (read : Signature) (fresh : AreFresh read) (sorts : list_all is_writable_name (datatype_names read) ≡ true) (functions_written : list_all is_writable_name (function_names read) ≡ true) where
  datatype_named : (d : ℕ) (t : Data) → slice_get read.datatypes d ≡ Some t → NamesSort read d t.name
  datatype_named d t there =
      let at : slice_get (datatype_names read) d ≡ Some t.name = map_at (λ (t : Data). t.name) read.datatypes d t there in
      let free = not_true (has_name fixed_sorts t.name) (passes_at (λ name. not (has_name fixed_sorts name)) (datatype_names read) d t.name fresh.sorts_free at) in
      record {
        quotable = quotable_name t.name (passes_at is_writable_name (datatype_names read) d t.name sorts at);
        found = unfixed_sort (datatype_names read) t.name (Some d) free (number_is (datatype_names read) d t.name fresh.sorts_apart at);
      }

  free_of : (name : List ℕ) (m : Meaning) → HasRow (functions read) name m → has_name fixed_functions name ≡ false
  free_of name m row = not_true (has_name fixed_functions name) (row_passes (λ name. not (has_name fixed_functions name)) (functions read) name m fresh.functions_free row)

  function_named : (name : List ℕ) (m : Meaning) → HasRow (functions read) name m → NamesFunction read m name
  function_named name m row = record {
    quotable = quotable_name name (row_passes is_writable_name (functions read) name m functions_written row);
    plain = unfixed_operator name (free_of name m row);
    found = found_row (functions read) name m fresh.functions_apart row;
  }

-- where the names of a signature differ, aren't fixed and can be written, each name of its first datatypes means what it names
pub names_are_read : (written read : Signature) (more : List Data) (preds : List (List ℕ)) (prefix : List ℕ) → written.datatypes ≡ read.datatypes ++ more → AreFresh written
    → list_all is_writable_name (signature_names written) ≡ true → is_taken (used_names written preds) prefix ≡ false → NamesAreRead written read prefix
names_are_read written read more preds prefix front fresh writable free =
    let first : AreFresh read = fresh_front written read more front fresh in
    let can = writable_front written read more front writable in
    let same : (d : ℕ) (t : Data) → slice_get read.datatypes d ≡ Some t → slice_get written.datatypes d ≡ Some t =
    λ d t there. ap (λ ds. slice_get ds d) front ∙ front_at read.datatypes more d t there in
    record {
      same = same;
      datatype = datatype_named read first can.0 can.1;
      constructor = λ d c t k there at. function_named read first can.0 can.1 k.name (meaning.Make d c) (make_row read d c t k there at);
      untrue = λ d c t k there at. unfixed_literal k.name (free_of read first can.0 can.1 k.name (meaning.Make d c) (make_row read d c t k there at));
      unnumbered = λ d c t k there at. ctor_unnumbered written preds prefix free d c t k (same d t there) at;
      selector = λ d c i t k f there at field. function_named read first can.0 can.1 f.name (meaning.Get d c i) (get_row read d c i t k f there at field);
    }
