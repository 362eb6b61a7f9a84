-- The names of the functions of a signature are those of its constructors and selectors, in order.
use Rattle.std.proofs.Common.{◌≡◌, ◌∙◌, sym, ap, refl, ℕ, suc, List, [], ◌∷◌, ◌++◌, map}
use Rattle.std.specs.List.{flat_map}
use Rattle.std.proofs.lemmas.List.{map-append}
use Rattle.std.proofs.lemmas.List.Concat.{flat_map-append}
use Rattle.chc_sorts.specs.declared.data.Data.{Data}
use Rattle.chc_sorts.specs.declared.data.Ctor.{Ctor}
use Rattle.chc_sorts.specs.declared.data.Field.{Field}
use Rattle.chc_sorts.specs.declared.meaning.Meaning.{Meaning}
use Rattle.chc_sorts.specs.declared.meaning.Meaning.TheVariants as meaning
use Rattle.chc_sorts.specs.declared.spec.DataSpec.{DataSpec}
use Rattle.chc_sorts.specs.Signature.{Signature}
use Rattle.chc_sorts.specs.Names.{each_from}
use Rattle.chc_sorts.specs.Functions.{function_names, functions_of}
use Rattle.chc_sorts.specs.Listing.{names_of, ctor_names, data_names, rows_of}
use Rattle.chc_sorts.specs.Groups.{names_with, with_group, data_declared}

field_names : (d c n : ℕ) (fs : List Field) → names_of (each_from (λ i (f : Field). (f.name, meaning.Get d c i) ∷ []) n fs) ≡ map (λ (f : Field). f.name) fs
field_names d c n [] = refl
field_names d c n (f ∷ fs) = ap (λ l. f.name ∷ l) (field_names d c (suc n) fs)

names_of_ctors : (d n : ℕ) (ks : List Ctor) → names_of (each_from (functions_of d) n ks) ≡ flat_map ctor_names ks
names_of_ctors d n [] = refl
names_of_ctors d n (k ∷ ks) =
    map-append (λ (row : List ℕ × Meaning). row.0) (functions_of d n k) (each_from (functions_of d) (suc n) ks)
    ∙ ap (λ l. (k.name ∷ l) ++ names_of (each_from (functions_of d) (suc n) ks)) (field_names d n 0 k.fields)
    ∙ ap (λ l. ctor_names k ++ l) (names_of_ctors d (suc n) ks)

-- the names of rows are those of what they stand for
names_of_datas : (n : ℕ) (ts : List Data) → names_of (each_from rows_of n ts) ≡ flat_map data_names ts
names_of_datas n [] = refl
names_of_datas n (t ∷ ts) =
    map-append (λ (row : List ℕ × Meaning). row.0) (rows_of n t) (each_from rows_of (suc n) ts)
    ∙ ap (λ l. l ++ names_of (each_from rows_of (suc n) ts)) (names_of_ctors n 0 t.ctors)
    ∙ ap (λ l. data_names t ++ l) (names_of_datas (suc n) ts)

-- the functions of a signature with a group are those before, and the group's
pub functions_with : (sig : Signature) (group : List DataSpec)
    → function_names (with_group sig group) ≡ function_names sig ++ flat_map data_names (map (data_declared (names_with sig group)) group)
functions_with sig group =
    names_of_datas 0 (sig.datatypes ++ map (data_declared (names_with sig group)) group)
    ∙ flat_map-append data_names sig.datatypes (map (data_declared (names_with sig group)) group)
    ∙ ap (λ l. l ++ flat_map data_names (map (data_declared (names_with sig group)) group)) (sym (names_of_datas 0 sig.datatypes))

-- all functions are those of all constructors
pub names_of_all_ctors : (ts : List Data) → names_of (each_from rows_of 0 ts) ≡ flat_map ctor_names (flat_map (λ (t : Data). t.ctors) ts)
names_of_all_ctors ts = names_of_datas 0 ts ∙ of_ctors ts
  where
    of_ctors : (ts : List Data) → flat_map data_names ts ≡ flat_map ctor_names (flat_map (λ (t : Data). t.ctors) ts)
    of_ctors [] = refl
    of_ctors (t ∷ ts) = ap (λ l. data_names t ++ l) (of_ctors ts) ∙ sym (flat_map-append ctor_names t.ctors (flat_map (λ (u : Data). u.ctors) ts))
