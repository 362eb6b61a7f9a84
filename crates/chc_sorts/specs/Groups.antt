-- What a group of datatypes adds to a signature, and why one is refused.
use Rattle.std.specs.Prelude.{◌≡◌, ◌<◌, ◌+◌, ⊤, ℕ, Bool, not, nat_lt, cond, List, [], ◌∷◌, ◌++◌, map, length, Option, Some, None, Result, Ok, Err, codes, is_some, slice_get}
use Rattle.std.specs.List.{list_any, flat_map}
use Rattle.std.specs.Option.{option_map, option_or, unwrap_or}
use Rattle.chc_sorts.specs.declared.sort.Sort.{Sort}
use Rattle.chc_sorts.specs.declared.sort.Sort.TheVariants as sort
use Rattle.chc_sorts.specs.declared.limit.Limit.{Limit}
use Rattle.chc_sorts.specs.declared.limit.Limit.TheVariants as limit
use Rattle.chc_sorts.specs.declared.spec.SortSpec.{SortSpec}
use Rattle.chc_sorts.specs.declared.spec.FieldSpec.{FieldSpec}
use Rattle.chc_sorts.specs.declared.spec.CtorSpec.{CtorSpec}
use Rattle.chc_sorts.specs.declared.spec.DataSpec.{DataSpec}
use Rattle.chc_sorts.specs.declared.refusal.SigErr.{SigErr}
use Rattle.chc_sorts.specs.declared.refusal.SigErr.TheVariants as refusal
use Rattle.chc_sorts.specs.declared.taken.NameSpaces.{NameSpaces}
use Rattle.chc_sorts.specs.declared.data.Data.{Data}
use Rattle.chc_sorts.specs.declared.data.Ctor.{Ctor}
use Rattle.chc_sorts.specs.declared.data.Field.{Field}
use Rattle.chc_sorts.specs.declared.op_table.ReadOp.{ReadOp}
use Rattle.chc_sorts.specs.Signature.{Signature, IsInhabited, AllInhabited}
use Rattle.chc_sorts.specs.Sorts.{sort_depth}
use Rattle.chc_sorts.specs.Names.{has_name}
use Rattle.chc_sorts.specs.Operators.{operator_rows}
use Rattle.chc_sorts.specs.Functions.{function_names}
use Rattle.chc_sorts.specs.Named.{datatype_names, names_in, first_unknown, sort_meant, most_depth}

-- a name that a group declares: a sort's, or a function's
pub data Declared : Type 0 where
  of_sort : List ℕ → Declared
  of_function : List ℕ → Declared

-- the names that a constructor declares: its own before its fields'
abbrev pub ctor_declares : CtorSpec → List Declared
ctor_declares k = Declared.of_function k.name ∷ map (λ (f : FieldSpec). Declared.of_function f.name) k.fields

-- the names that a datatype declares: its own before its constructors'
abbrev pub data_declares : DataSpec → List Declared
data_declares t = Declared.of_sort t.name ∷ flat_map ctor_declares t.ctors

-- the names that a group declares, in order
abbrev pub declared_by : List DataSpec → List Declared
declared_by group = flat_map data_declares group

-- the first of the names that is taken: by those given, or by an earlier one of its kind
abbrev pub first_taken : NameSpaces → List Declared → Option (List ℕ)
first_taken taken [] = None
first_taken taken (Declared.of_sort name ∷ more) = cond (has_name taken.sorts name) (Some name) (first_taken (record { sorts = taken.sorts ++ name ∷ []; functions = taken.functions }) more)
first_taken taken (Declared.of_function name ∷ more) = cond (has_name taken.functions name) (Some name) (first_taken (record { sorts = taken.sorts; functions = taken.functions ++ name ∷ [] }) more)

-- the names of sorts that every signature has
unfoldable pub fixed_sorts : List (List ℕ)
fixed_sorts = codes "Bool" ∷ codes "Int" ∷ codes "Array" ∷ []

-- the names of functions that every signature has: `true`, `false` and the operators
unfoldable pub fixed_functions : List (List ℕ)
fixed_functions = codes "true" ∷ codes "false" ∷ map (λ (row : List ℕ × ReadOp). row.0) operator_rows

-- the names that are taken: the fixed ones, datatypes, constructors, selectors and predicates
abbrev pub taken_names : Signature → List (List ℕ) → NameSpaces
taken_names sig preds = record { sorts = fixed_sorts ++ datatype_names sig; functions = fixed_functions ++ function_names sig ++ preds }

-- the names of the datatypes of a signature and of a group after them
abbrev pub names_with : Signature → List DataSpec → List (List ℕ)
names_with sig group = datatype_names sig ++ map (λ (t : DataSpec). t.name) group

-- the sorts of a constructor's fields, as they are written, in order
abbrev pub ctor_specs : CtorSpec → List SortSpec
ctor_specs k = map (λ (f : FieldSpec). f.sort) k.fields

-- the sorts of a datatype's fields
abbrev pub data_specs : DataSpec → List SortSpec
data_specs t = flat_map ctor_specs t.ctors

-- the sorts of a group's fields
abbrev pub field_specs : List DataSpec → List SortSpec
field_specs group = flat_map data_specs group

-- whether a written sort has an array that isn't over Int, where its names are known
abbrev pub is_misindexed : List (List ℕ) → SortSpec → Bool
is_misindexed names spec = not (is_some (sort_meant names spec))

-- whether a written sort stands for one that is too deep
abbrev pub is_deep : Option Sort → Bool
is_deep s = nat_lt most_depth (unwrap_or (option_map sort_depth s) 0)

-- whether a datatype has too many constructors
abbrev pub is_wide : DataSpec → Bool
is_wide t = nat_lt 256 (length t.ctors)

-- whether one of its constructors has too many fields
abbrev pub has_wide : DataSpec → Bool
has_wide t = list_any (λ (k : CtorSpec). nat_lt 64 (length k.fields)) t.ctors

-- the first limit that the group passes: datatypes, constructors of one, fields of one
abbrev pub limit_passed : Signature → List DataSpec → Option Limit
limit_passed sig group =
    cond (nat_lt 1024 (length sig.datatypes + length group)) (Some limit.L12)
    (cond (list_any is_wide group) (Some limit.L13)
    (cond (list_any has_wide group) (Some limit.L14) None))

-- the refusal that a test brings
abbrev pub refused_where : Bool → SigErr → Option SigErr
refused_where test why = cond test (Some why) None

-- the first refusal of written sorts: the first unknown name, else an array that isn't over Int, else a sort too deep
abbrev pub sort_refusal : List (List ℕ) → List SortSpec → Option SigErr
sort_refusal names specs =
    option_or (option_map (λ name. refusal.UnknownSort name) (first_unknown names (flat_map names_in specs)))
    (option_or (refused_where (list_any (is_misindexed names) specs) refusal.ArrayIndex) (refused_where (list_any (λ spec. is_deep (sort_meant names spec)) specs) refusal.SortTooDeep))

-- the first refusal of a group, but for that of a datatype without values: of its names, of its sorts, of its size
abbrev pub first_refusal : Signature → List DataSpec → List (List ℕ) → Option SigErr
first_refusal sig group preds =
    option_or (option_map (λ name. refusal.NameTaken name) (first_taken (taken_names sig preds) (declared_by group)))
    (option_or (sort_refusal (names_with sig group) (field_specs group)) (option_map (λ l. refusal.TooMany l) (limit_passed sig group)))

-- the datatype that is declared, where the datatypes have these names and every sort is known
abbrev pub field_declared : List (List ℕ) → FieldSpec → Field
field_declared names f = record { name = f.name; sort = unwrap_or (sort_meant names f.sort) sort.Bool }

abbrev pub ctor_declared : List (List ℕ) → CtorSpec → Ctor
ctor_declared names k = record { name = k.name; fields = map (field_declared names) k.fields }

abbrev pub data_declared : List (List ℕ) → DataSpec → Data
data_declared names t = record { name = t.name; ctors = map (ctor_declared names) t.ctors }

-- the signature with the group added
abbrev pub with_group : Signature → List DataSpec → Signature
with_group sig group =
    record { datatypes = sig.datatypes ++ map (data_declared (names_with sig group)) group; groups = sig.groups ++ length group ∷ [] }

-- the first datatype without values, by its name
pub record IsFirstEmpty (ds : List Data) (name : List ℕ) : Type 0 where
  pub number : ℕ
  pub datatype : Data
  pub there : slice_get ds number ≡ Some datatype
  pub named : datatype.name ≡ name
  pub empty : IsInhabited ds (sort.Data number) → ⊥
  pub earlier : (d : ℕ) → d < number → ∥ IsInhabited ds (sort.Data d) ∥₁

-- what adding a group answers, and the signature after it, which is the old one after a refusal
abbrev pub AddsGroup : Signature → List DataSpec → List (List ℕ) → Result ⊤ SigErr → Signature → Type 0
AddsGroup sig group preds (Ok done) new = (first_refusal sig group preds ≡ None) × AllInhabited (with_group sig group).datatypes × (new ≡ with_group sig group)
AddsGroup sig group preds (Err refusal.NoMemory) new = new ≡ sig
AddsGroup sig group preds (Err (refusal.NotWellFounded name)) new =
    (first_refusal sig group preds ≡ None) × IsFirstEmpty (with_group sig group).datatypes name × (new ≡ sig)
AddsGroup sig group preds (Err (refusal.NameTaken name)) new = (first_refusal sig group preds ≡ Some (refusal.NameTaken name)) × (new ≡ sig)
AddsGroup sig group preds (Err (refusal.UnknownSort name)) new = (first_refusal sig group preds ≡ Some (refusal.UnknownSort name)) × (new ≡ sig)
AddsGroup sig group preds (Err refusal.ArrayIndex) new = (first_refusal sig group preds ≡ Some refusal.ArrayIndex) × (new ≡ sig)
AddsGroup sig group preds (Err refusal.SortTooDeep) new = (first_refusal sig group preds ≡ Some refusal.SortTooDeep) × (new ≡ sig)
AddsGroup sig group preds (Err (refusal.TooMany l)) new = (first_refusal sig group preds ≡ Some (refusal.TooMany l)) × (new ≡ sig)
