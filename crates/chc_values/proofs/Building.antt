-- A sort's default from its base's, and a datatype's from those of its fields.
use Rattle.std.proofs.Common.{◌≡◌, ◌⊎◌, ℕ, ◌+◌, ◌<◌, ◌≤◌, Bool, true, nat_lt, List, [], ◌∷◌, ◌++◌, length, map, take, get_or, Option, Result, Ok, Err, IfOk, IsTrue, slice_get, inl, inr, refl, sym, ap, ◌∙◌, subst, arith}
use Rattle.std.specs.List.{list_all}
use Rattle.std.proofs.lemmas.Bool.Decides.{nat_tests}
use Rattle.std.proofs.lemmas.List.{take_more, take_all, map-append}
use Rattle.std.proofs.lemmas.List.Recursion.{and_at}
use Rattle.chc_sorts.specs.declared.memory.NoMemory.{NoMemory}
use Rattle.chc_sorts.specs.declared.sort.Sort.{Sort, Sort-F, fold-Sort, fold-roll-Sort}
use Rattle.chc_sorts.specs.declared.sort.Sort.TheVariants as sort
use Rattle.chc_sorts.specs.declared.data.Field.{Field}
use Rattle.chc_sorts.specs.Signature.{Signature}
use Rattle.chc_sorts.specs.Sorts.{is_declared_step}
use Rattle.chc_values.specs.declared.choice.Choice.{Choice}
use Rattle.chc_values.specs.declared.default.Base.{Base}
use Rattle.chc_values.specs.declared.value.Value.{Value}
use Rattle.chc_values.specs.declared.value.Value.TheVariants as value
use Rattle.chc_values.specs.Values.{HasFields}
use Rattle.chc_values.specs.Defaults.{IsDefault, array, datatype, AreDefaults, none, more}
use Rattle.chc_values.specs.Choices.{is_below, is_within, IsChoice}
use Rattle.chc_values.specs.Bases.{base_of, base_step, in_arrays, in_arrays_step}
use Rattle.chc_values.proofs.Datatypes.{one_fields}
use Rattle.chc_values.proofs.Choosing.{each_sort, within-Bool, within-Int, within-Data, within-Array}

-- the base as a sort
abbrev pub base_sort : Base → Sort
base_sort Base.Bool = sort.Bool
base_sort Base.Int = sort.Int
base_sort (Base.Data d) = sort.Data d

base-Bool : base_of sort.Bool ≡ Base.Bool
base-Bool = ap base_of (sym sort.rolls-Bool) ∙ fold-roll-Sort Base base_step Sort-F.Bool

base-Int : base_of sort.Int ≡ Base.Int
base-Int = ap base_of (sym sort.rolls-Int) ∙ fold-roll-Sort Base base_step Sort-F.Int

base-Data : (d : ℕ) → base_of (sort.Data d) ≡ Base.Data d
base-Data d = ap base_of (sym (sort.rolls-Data d)) ∙ fold-roll-Sort Base base_step (Sort-F.Data d)

base-Array : (s : Sort) → base_of (sort.Array s) ≡ base_of s
base-Array s = ap base_of (sym (sort.rolls-Array s)) ∙ fold-roll-Sort Base base_step (Sort-F.Array s)

-- what holds of a sort alike with or without an array around it holds where it holds of the base
module _ (P : Sort → Type 0) (around : (s : Sort) → P s → P (sort.Array s)) where
  pub from_base : (s : Sort) → P (base_sort (base_of s)) → P s
  from_base = each_sort (λ s. P (base_sort (base_of s)) → P s) (record {
    of_bool = λ h. subst (λ b. P (base_sort b)) base-Bool h;
    of_int = λ h. subst (λ b. P (base_sort b)) base-Int h;
    of_data = λ d h. subst (λ b. P (base_sort b)) (base-Data d) h;
    of_array = λ s f h. around s (f (subst (λ b. P (base_sort b)) (base-Array s) h));
  })

module _ (P : Sort → Type 0) (within : (s : Sort) → P (sort.Array s) → P s) where
  pub to_base : (s : Sort) → P s → P (base_sort (base_of s))
  to_base = each_sort (λ s. P s → P (base_sort (base_of s))) (record {
    of_bool = λ h. subst (λ b. P (base_sort b)) (sym base-Bool) h;
    of_int = λ h. subst (λ b. P (base_sort b)) (sym base-Int) h;
    of_data = λ d h. subst (λ b. P (base_sort b)) (sym (base-Data d)) h;
    of_array = λ s f h. subst (λ b. P (base_sort b)) (sym (base-Array s)) (f (within s h));
  })

module _ (v : Value) where
  in_arrays-Bool : in_arrays v sort.Bool ≡ v
  in_arrays-Bool = ap (in_arrays v) (sym sort.rolls-Bool) ∙ fold-roll-Sort Value (in_arrays_step v) Sort-F.Bool

  in_arrays-Int : in_arrays v sort.Int ≡ v
  in_arrays-Int = ap (in_arrays v) (sym sort.rolls-Int) ∙ fold-roll-Sort Value (in_arrays_step v) Sort-F.Int

  in_arrays-Data : (d : ℕ) → in_arrays v (sort.Data d) ≡ v
  in_arrays-Data d = ap (in_arrays v) (sym (sort.rolls-Data d)) ∙ fold-roll-Sort Value (in_arrays_step v) (Sort-F.Data d)

  in_arrays-Array : (s : Sort) → in_arrays v (sort.Array s) ≡ value.Array (in_arrays v s) []
  in_arrays-Array s = ap (in_arrays v) (sym (sort.rolls-Array s)) ∙ fold-roll-Sort Value (in_arrays_step v) (Sort-F.Array s)

  -- the base's default, everywhere in the arrays, is the sort's
  default_in_arrays : (sig : Signature) (s : Sort) → IsDefault sig (base_sort (base_of s)) v → IsDefault sig s (in_arrays v s)
  default_in_arrays sig = each_sort (λ s. IsDefault sig (base_sort (base_of s)) v → IsDefault sig s (in_arrays v s)) (record {
    of_bool = λ h. subst (IsDefault sig sort.Bool) (sym in_arrays-Bool) (subst (λ b. IsDefault sig (base_sort b) v) base-Bool h);
    of_int = λ h. subst (IsDefault sig sort.Int) (sym in_arrays-Int) (subst (λ b. IsDefault sig (base_sort b) v) base-Int h);
    of_data = λ d h. subst (IsDefault sig (sort.Data d)) (sym (in_arrays-Data d)) (subst (λ b. IsDefault sig (base_sort b) v) (base-Data d) h);
    of_array = λ s f h. subst (IsDefault sig (sort.Array s)) (sym (in_arrays-Array s)) (array s (in_arrays v s) (f (subst (λ b. IsDefault sig (base_sort b) v) (base-Array s) h)));
  })

pub default_made : (sig : Signature) (s : Sort) (b : Base) (v : Value) (r : Result Value NoMemory) → IfOk r (λ u. u ≡ in_arrays v s) → b ≡ base_of s → IsDefault sig (base_sort b) v
    → IfOk r (λ u. IsDefault sig s u)
default_made sig s b v (Ok u) h e d = subst (IsDefault sig s) (sym h) (default_in_arrays v sig s (subst (λ c. IsDefault sig (base_sort c) v) e d))
default_made sig s b v (Err f) h e d = tt

-- what is told of a sort is told of its base, and back
pub told_base : (choices : List (Option Choice)) (n : ℕ) (s : Sort) (d : ℕ) → Base.Data d ≡ base_of s → is_within choices n s ≡ true → is_below (slice_get choices d) n ≡ true
told_base choices n s d e h =
    sym (within-Data choices n d) ∙ ap (λ b. is_within choices n (base_sort b)) e
    ∙ to_base (λ t. is_within choices n t ≡ true) (λ t g. sym (within-Array choices n t) ∙ g) s h

within_from_base : (choices : List (Option Choice)) (n : ℕ) (s : Sort) (b : Base) → b ≡ base_of s → is_within choices n (base_sort b) ≡ true → is_within choices n s ≡ true
within_from_base choices n s b e h =
    from_base (λ t. is_within choices n t ≡ true) (λ t g. within-Array choices n t ∙ g) s (ap (λ c. is_within choices n (base_sort c)) (sym e) ∙ h)

pub within_told : (choices : List (Option Choice)) (n : ℕ) (s : Sort) (d : ℕ) → Base.Data d ≡ base_of s → is_below (slice_get choices d) n ≡ true → is_within choices n s ≡ true
within_told choices n s d e h = within_from_base choices n s (Base.Data d) e (within-Data choices n d ∙ h)

pub within_plain : (choices : List (Option Choice)) (n : ℕ) (s : Sort) (b : Base) → (b ≡ Base.Bool) ⊎ (b ≡ Base.Int) → b ≡ base_of s → is_within choices n s ≡ true
within_plain choices n s b (inl p) e = within_from_base choices n s Base.Bool (sym p ∙ e) (within-Bool choices n)
within_plain choices n s b (inr p) e = within_from_base choices n s Base.Int (sym p ∙ e) (within-Int choices n)

-- the base of a sort that names declared datatypes alone is declared
abbrev pub is_declared : Signature → Sort → Bool
is_declared sig = fold-Sort Bool (is_declared_step sig)

pub declared-Array : (sig : Signature) (s : Sort) → is_declared sig (sort.Array s) ≡ is_declared sig s
declared-Array sig s = ap (is_declared sig) (sym (sort.rolls-Array s)) ∙ fold-roll-Sort Bool (is_declared_step sig) (Sort-F.Array s)

pub declared-Data : (sig : Signature) (d : ℕ) → is_declared sig (sort.Data d) ≡ nat_lt d (length sig.datatypes)
declared-Data sig d = ap (is_declared sig) (sym (sort.rolls-Data d)) ∙ fold-roll-Sort Bool (is_declared_step sig) (Sort-F.Data d)

pub declared_base : (sig : Signature) (s : Sort) (d : ℕ) → Base.Data d ≡ base_of s → IsTrue (fold-Sort Bool (is_declared_step sig) s) → d < length sig.datatypes
declared_base sig s d e h =
    let t : nat_lt d (length sig.datatypes) ≡ true =
    sym (declared-Data sig d) ∙ ap (λ b. is_declared sig (base_sort b)) e ∙ to_base (λ u. is_declared sig u ≡ true) (λ u g. sym (declared-Array sig u) ∙ g) s h in
    below d (length sig.datatypes) t
  where
    below : (m n : ℕ) → nat_lt m n ≡ true → m < n
    below m n t = grind (arith, nat_tests)

-- the sorts of fields
abbrev pub sorts_in : List Field → List Sort
sorts_in fs = map (λ (f : Field). f.sort) fs

add_default : (sig : Signature) (ss : List Sort) (vs : List Value) (s : Sort) (v : Value) → AreDefaults sig ss vs → IsDefault sig s v → AreDefaults sig (ss ++ s ∷ []) (vs ++ v ∷ [])
add_default sig ss vs s v none d = more s [] v [] d none
add_default sig ss vs s v (more t ts u us e es) d = more t (ts ++ s ∷ []) u (us ++ v ∷ []) e (add_default sig ts us s v es d)

-- one more field's default
pub next_default : (sig : Signature) (fs : List Field) (i : ℕ) (f : Field) (vs us : List Value) (v : Value) → i < length fs → f ≡ get_or fs i f
    → AreDefaults sig (sorts_in (take i fs)) vs → IsDefault sig f.sort v → us ≡ vs ++ v ∷ [] → AreDefaults sig (sorts_in (take (i + 1) fs)) us
next_default sig fs i f vs us v l e ds d q =
    let t : sorts_in (take (i + 1) fs) ≡ sorts_in (take i fs) ++ f.sort ∷ [] =
    ap sorts_in (take_more fs i f l ∙ ap (λ x. take i fs ++ x ∷ []) (sym e)) ∙ map-append (λ (g : Field). g.sort) (take i fs) (f ∷ []) in
    subst (λ ss. AreDefaults sig ss us) (sym t) (subst (AreDefaults sig (sorts_in (take i fs) ++ f.sort ∷ [])) (sym q) (add_default sig (sorts_in (take i fs)) vs f.sort v ds d))

-- each field of a chosen constructor is of a height that is told
pub field_told : (sig : Signature) (choices : List (Option Choice)) (d : ℕ) (k : Choice) (fs : List Field) (i : ℕ) (f : Field) → IsChoice sig choices d k → HasFields sig d k.ctor (sorts_in fs)
    → i < length fs → f ≡ get_or fs i f → is_within choices k.height f.sort ≡ true
field_told sig choices d k fs i f c h l e =
    let same = one_fields sig d k.ctor c.sorts (sorts_in fs) c.first.fields h in
    let all : list_all (is_within choices k.height) (sorts_in fs) ≡ true = ap (list_all (is_within choices k.height)) (sym same) ∙ c.within in
    ap (λ (g : Field). is_within choices k.height g.sort) e
    ∙ and_at (λ gs. list_all (is_within choices k.height) (sorts_in gs)) (λ (g : Field). is_within choices k.height g.sort) refl (λ g gs. refl) fs i f l all

-- the constructor on the defaults of its fields
pub datatype_made : (sig : Signature) (choices : List (Option Choice)) (d : ℕ) (k : Choice) (fs : List Field) (i : ℕ) (vs : List Value) → IsChoice sig choices d k → HasFields sig d k.ctor (sorts_in fs)
    → length fs ≤ i → AreDefaults sig (sorts_in (take i fs)) vs → IsDefault sig (sort.Data d) (value.Data d k.ctor vs)
datatype_made sig choices d k fs i vs c h l ds =
    let same = one_fields sig d k.ctor (sorts_in fs) c.sorts h c.first.fields in
    datatype d k.ctor c.sorts vs c.first (subst (λ ss. AreDefaults sig ss vs) (ap sorts_in (take_all i fs l) ∙ same) ds)

-- a datatype's number is declared, and an array of a declared sort
pub declared_below : (sig : Signature) (d : ℕ) → d < length sig.datatypes → IsTrue (fold-Sort Bool (is_declared_step sig) (sort.Data d))
declared_below sig d l = declared-Data sig d ∙ told d (length sig.datatypes) l
  where
    told : (m n : ℕ) → m < n → nat_lt m n ≡ true
    told m n l = grind (arith, nat_tests)

pub declared_array : (sig : Signature) (s : Sort) → IsTrue (fold-Sort Bool (is_declared_step sig) s) → IsTrue (fold-Sort Bool (is_declared_step sig) (sort.Array s))
declared_array sig s h = declared-Array sig s ∙ h
