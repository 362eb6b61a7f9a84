-- The first groups of a signature, and its datatypes as a script declares them.
use Rattle.std.specs.Prelude.{◌≡◌, ◌<◌, ◌+◌, ℕ, suc, Bool, true, false, nat_lt, List, [], ◌∷◌, length, map, take, drop, get_or, Some, None, slice_get, codes, if◌then◌else◌}
use Rattle.std.specs.List.{list_all}
use Rattle.std.specs.Str.{bytes_eq}
use Rattle.chc_sorts.specs.declared.sort.Sort.{Sort, Sort-F, fold-Sort}
use Rattle.chc_sorts.specs.declared.data.Data.{Data}
use Rattle.chc_sorts.specs.declared.data.Ctor.{Ctor}
use Rattle.chc_sorts.specs.declared.data.Field.{Field}
use Rattle.chc_sorts.specs.declared.spec.SortSpec.{SortSpec}
use Rattle.chc_sorts.specs.declared.spec.SortSpec.TheVariants as spec
use Rattle.chc_sorts.specs.declared.spec.FieldSpec.{FieldSpec}
use Rattle.chc_sorts.specs.declared.spec.CtorSpec.{CtorSpec}
use Rattle.chc_sorts.specs.declared.spec.DataSpec.{DataSpec}
use Rattle.chc_sorts.specs.Signature.{Signature, AllInhabited}
use Rattle.chc_sorts.specs.Groups.{first_refusal}
use Rattle.chc_sorts.specs.Sorts.{sort_fits}
use Rattle.chc_print.specs.Texts.{data_name}

-- the sum of some sizes
abbrev pub total : List ℕ → ℕ
total [] = 0
total (size ∷ sizes) = size + total sizes

-- how many datatypes the first n groups have
abbrev pub before_group : Signature → ℕ → ℕ
before_group sig n = total (take n sig.groups)

-- the signature of the first n groups alone
abbrev pub first_groups : Signature → ℕ → Signature
first_groups sig n = record { datatypes = take (before_group sig n) sig.datatypes; groups = take n sig.groups }

-- the datatypes of the group of number n
abbrev pub group_at : Signature → ℕ → List Data
group_at sig n = take (get_or sig.groups n 0) (drop (before_group sig n) sig.datatypes)

abbrev pub written_step : Signature → Sort-F SortSpec → SortSpec
written_step sig Sort-F.Bool = spec.Named (codes "Bool")
written_step sig Sort-F.Int = spec.Named (codes "Int")
written_step sig (Sort-F.Data d) = spec.Named (data_name sig d)
written_step sig (Sort-F.Array element) = spec.Array (spec.Named (codes "Int")) element

-- a sort as it is written over the signature
abbrev pub written_sort : Signature → Sort → SortSpec
written_sort sig = fold-Sort SortSpec (written_step sig)

-- fields, constructors and datatypes as a script declares them
abbrev pub field_again : Signature → Field → FieldSpec
field_again sig f = record { name = f.name; sort = written_sort sig f.sort }

abbrev pub ctor_again : Signature → Ctor → CtorSpec
ctor_again sig k = record { name = k.name; fields = map (field_again sig) k.fields }

abbrev pub data_again : Signature → Data → DataSpec
data_again sig t = record { name = t.name; ctors = map (ctor_again sig) t.ctors }

abbrev pub group_again : Signature → List Data → List DataSpec
group_again sig ts = map (data_again sig) ts

-- whether the sorts of all fields of the constructor fit the signature, and those of the datatype
abbrev pub ctor_fits : Signature → Ctor → Bool
ctor_fits sig k = list_all (λ (f : Field). sort_fits sig f.sort) k.fields

abbrev pub data_fits : Signature → Data → Bool
data_fits sig t = list_all (ctor_fits sig) t.ctors

-- each datatype has a name of its own, which is neither `Bool` nor `Int`
pub record HasOwnNames (sig : Signature) : Type 0 where
  pub apart : (d e : ℕ) (t u : Data) → slice_get sig.datatypes d ≡ Some t → slice_get sig.datatypes e ≡ Some u → t.name ≡ u.name → d ≡ e
  pub not_bool : (d : ℕ) (t : Data) → slice_get sig.datatypes d ≡ Some t → bytes_eq t.name (codes "Bool") ≡ false
  pub not_int : (d : ℕ) (t : Data) → slice_get sig.datatypes d ≡ Some t → bytes_eq t.name (codes "Int") ≡ false

-- a signature that its groups make, one after the other: they hold all datatypes, each of which has a name of its own;
-- the sorts of each group's fields fit it and those before it; no group is refused after those before it, and all their
-- datatypes have values
pub record ComesInGroups (sig : Signature) : Type 0 where
  pub whole : total sig.groups ≡ length sig.datatypes
  pub own : HasOwnNames sig
  pub fields : (n : ℕ) → n < length sig.groups → list_all (data_fits (first_groups sig (suc n))) (group_at sig n) ≡ true
  pub fits : (n : ℕ) → n < length sig.groups → first_refusal (first_groups sig n) (group_again sig (group_at sig n)) [] ≡ None
  pub inhabited : (n : ℕ) → AllInhabited (first_groups sig n).datatypes

-- how many groups of these sizes there are up to the last one that the reach goes into, where the first of them begins with
-- the datatype of that number
abbrev pub groups_reached : ℕ → ℕ → List ℕ → ℕ
groups_reached reach from [] = 0
groups_reached reach from (size ∷ sizes) = if nat_lt from reach then 1 + groups_reached reach (from + size) sizes else 0

-- the signature of the groups that the reach goes into
abbrev pub reached_signature : Signature → ℕ → Signature
reached_signature sig reach = first_groups sig (groups_reached reach 0 sig.groups)
