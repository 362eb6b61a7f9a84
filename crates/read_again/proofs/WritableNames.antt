-- The names of a signature that can all be written, by its datatypes.
use Rattle.std.proofs.Common.{◌≡◌, ◌∙◌, sym, ap, refl, ℕ, zero, suc, Bool, true, ◌&&◌, List, [], ◌∷◌, map, take, drop, get_or, Option, Some, None, slice_get}
use Rattle.std.specs.List.{list_all}
use Rattle.std.proofs.lemmas.Bool.{and_parts, and_from}
use Rattle.std.proofs.lemmas.List.{map-append}
use Rattle.std.proofs.lemmas.List.Folds.{list_all-append}
use Rattle.chc_sorts.specs.declared.data.Data.{Data}
use Rattle.chc_sorts.specs.declared.data.Ctor.{Ctor}
use Rattle.chc_sorts.specs.declared.data.Field.{Field}
use Rattle.chc_sorts.specs.declared.meaning.Meaning.{Meaning}
use Rattle.chc_sorts.specs.declared.meaning.Meaning.TheVariants as meaning
use Rattle.chc_sorts.specs.Signature.{Signature}
use Rattle.chc_sorts.specs.Names.{each_from}
use Rattle.chc_sorts.specs.Named.{datatype_names}
use Rattle.chc_sorts.specs.Functions.{functions_of, function_names}
use Rattle.chc_sorts.specs.Listing.{names_of, rows_of}
use Rattle.chc_state.specs.Names.{is_writable_name, signature_names}
use Rattle.chc_print.specs.Texts.{data_name, name_of_data}
use Rattle.read_again.specs.FirstGroups.{before_group, group_at}
use Rattle.term_again.proofs.TermNames.{passes_at}
use Rattle.read_again.proofs.WrittenSorts.{AreWritable}
use Rattle.read_again.proofs.WrittenGroups.{is_writable_ctor, is_writable_data}

abbrev all_writable : List (List ℕ) → Bool
all_writable = list_all is_writable_name

fields_spelt : (d c n : ℕ) (fs : List Field) → all_writable (names_of (each_from (λ i (f : Field). (f.name, meaning.Get d c i) ∷ []) n fs)) ≡ list_all (λ (f : Field). is_writable_name f.name) fs
fields_spelt d c n [] = refl
fields_spelt d c n (f ∷ fs) = ap (λ b. is_writable_name f.name && b) (fields_spelt d c (suc n) fs)

ctors_spelt : (d n : ℕ) (ks : List Ctor) → all_writable (names_of (each_from (functions_of d) n ks)) ≡ list_all is_writable_ctor ks
ctors_spelt d n [] = refl
ctors_spelt d n (k ∷ ks) =
    ap all_writable (map-append (λ (row : List ℕ × Meaning). row.0) (functions_of d n k) (each_from (functions_of d) (suc n) ks))
    ∙ list_all-append is_writable_name (names_of (functions_of d n k)) (names_of (each_from (functions_of d) (suc n) ks))
    ∙ (λ i. (is_writable_name k.name && fields_spelt d n 0 k.fields i) && ctors_spelt d (suc n) ks i)

datas_spelt : (n : ℕ) (ts : List Data) → all_writable (names_of (each_from rows_of n ts)) ≡ list_all (λ (t : Data). list_all is_writable_ctor t.ctors) ts
datas_spelt n [] = refl
datas_spelt n (t ∷ ts) =
    ap all_writable (map-append (λ (row : List ℕ × Meaning). row.0) (rows_of n t) (each_from rows_of (suc n) ts))
    ∙ list_all-append is_writable_name (names_of (rows_of n t)) (names_of (each_from rows_of (suc n) ts))
    ∙ (λ i. ctors_spelt n 0 t.ctors i && datas_spelt (suc n) ts i)

both_spelt : (ts : List Data) → all_writable (map (λ (t : Data). t.name) ts) ≡ true → list_all (λ (t : Data). list_all is_writable_ctor t.ctors) ts ≡ true → list_all is_writable_data ts ≡ true
both_spelt [] h g = refl
both_spelt (t ∷ ts) h g =
    let names = and_parts (is_writable_name t.name) (all_writable (map (λ (u : Data). u.name) ts)) h in
    let ctors = and_parts (list_all is_writable_ctor t.ctors) (list_all (λ (u : Data). list_all is_writable_ctor u.ctors) ts) g in
    and_from (is_writable_data t) (list_all is_writable_data ts) (and_from (is_writable_name t.name) (list_all is_writable_ctor t.ctors) names.0 ctors.0) (both_spelt ts names.1 ctors.1)

module _ (sig : Signature) (spelt : list_all is_writable_name (signature_names sig) ≡ true) where
  parts : (all_writable (datatype_names sig) ≡ true) × (all_writable (function_names sig) ≡ true)
  parts = and_parts (all_writable (datatype_names sig)) (all_writable (function_names sig)) (sym (list_all-append is_writable_name (datatype_names sig) (function_names sig)) ∙ spelt)

  pub datatypes_spelt : list_all is_writable_data sig.datatypes ≡ true
  datatypes_spelt = both_spelt sig.datatypes parts.0 (sym (datas_spelt 0 sig.datatypes) ∙ parts.1)

-- what all pass, those in front and those behind pass
taken_pass : {X : Type 0} (test : X → Bool) (n : ℕ) (xs : List X) → list_all test xs ≡ true → list_all test (take n xs) ≡ true
taken_pass test zero [] h = refl
taken_pass test zero (x ∷ xs) h = refl
taken_pass test (suc n) [] h = refl
taken_pass test (suc n) (x ∷ xs) h = let p = and_parts (test x) (list_all test xs) h in and_from (test x) (list_all test (take n xs)) p.0 (taken_pass test n xs p.1)

dropped_pass : {X : Type 0} (test : X → Bool) (n : ℕ) (xs : List X) → list_all test xs ≡ true → list_all test (drop n xs) ≡ true
dropped_pass test zero [] h = refl
dropped_pass test zero (x ∷ xs) h = h
dropped_pass test (suc n) [] h = refl
dropped_pass test (suc n) (x ∷ xs) h = dropped_pass test n xs (and_parts (test x) (list_all test xs) h).1

module _ (sig : Signature) (spelt : list_all is_writable_name (signature_names sig) ≡ true) where
  pub groups_spelt : (n : ℕ) → list_all is_writable_data (group_at sig n) ≡ true
  groups_spelt n =
      taken_pass is_writable_data (get_or sig.groups n 0) (drop (before_group sig n) sig.datatypes)
      (dropped_pass is_writable_data (before_group sig n) sig.datatypes (datatypes_spelt sig spelt))

  pub sorts_spelt : AreWritable sig
  sorts_spelt d = by (slice_get sig.datatypes d) refl
    where
      by : (o : Option Data) → slice_get sig.datatypes d ≡ o → is_writable_name (data_name sig d) ≡ true
      by None e = ap (λ o. is_writable_name (name_of_data o)) e
      by (Some t) e = ap (λ o. is_writable_name (name_of_data o)) e ∙ (and_parts (is_writable_name t.name) (list_all is_writable_ctor t.ctors) (passes_at is_writable_data sig.datatypes d t (datatypes_spelt sig spelt) e)).0
