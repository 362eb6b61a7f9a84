-- The line of each group adds it to those before it.
use Rattle.std.proofs.Common.{◌≡◌, ◌∙◌, sym, ap, refl, ℕ, zero, suc, ◌+◌, ◌≤◌, ◌<◌, Bool, true, cond, nat_lt, List, [], ◌∷◌, ◌++◌, length, map, take, drop, get_or, Option, Some, None, slice_get, Ok, arith}
use Rattle.std.specs.List.{list_all}
use Rattle.std.specs.Option.{unwrap_or}
use Rattle.std.proofs.lemmas.Bool.{and_parts}
use Rattle.std.proofs.lemmas.List.{map-append, length-map, length-drop, length-take-le}
use Rattle.std.proofs.lemmas.Option.{none-some}
use Rattle.chc_sorts.specs.declared.sort.Sort.{Sort, fold-Sort}
use Rattle.chc_sorts.specs.declared.sort.Sort.TheVariants as sort
use Rattle.chc_sorts.specs.declared.data.Data.{Data}
use Rattle.chc_sorts.specs.declared.data.Ctor.{Ctor}
use Rattle.chc_sorts.specs.declared.data.Field.{Field}
use Rattle.chc_sorts.specs.declared.spec.DataSpec.{DataSpec}
use Rattle.chc_sorts.specs.Signature.{Signature}
use Rattle.chc_sorts.specs.Sorts.{sort_depth, sort_fits, is_declared_step}
use Rattle.chc_sorts.specs.Named.{datatype_names}
use Rattle.chc_sorts.specs.Groups.{names_with, with_group, field_declared, ctor_declared, data_declared}
use Rattle.chc_sexpr.specs.declared.tree.Tree.{Tree, out-Tree}
use Rattle.chc_elab.specs.Sites.{Reading, ◌>>>◌}
use Rattle.chc_elab.specs.SortTrees.{place_at}
use Rattle.chc_script.specs.declared.whole.progress.Progress.{Progress}
use Rattle.chc_script.specs.declared.whole.progress.Progress.TheVariants as progress
use Rattle.chc_script.specs.Inhabited.{first_without_value}
use Rattle.chc_script.specs.Datatypes.{group_verdict, verdict_at, added_at}
use Rattle.chc_script.specs.Drafts.{DraftView, no_predicates, none_asserted, with_sig}
use Rattle.chc_script.specs.Commands.{datatypes_parts, group_declared, group_added, bad}
use Rattle.chc_script.specs.WholeScripts.{command, command_at}
use Rattle.chc_script.proofs.InhabitedLaws.{none_where_all}
use Rattle.read_again.specs.FirstGroups.{total, before_group, first_groups, group_at, field_again, ctor_again, data_again, group_again, ctor_fits, data_fits, HasOwnNames, ComesInGroups}
use Rattle.read_again.proofs.ReadSorts.{AreNumbered, sort_meant_again}
use Rattle.read_again.proofs.WrittenGroups.{GroupIs, group_shaped, group_is_read}

-- ---- fronts of lists

pub total_next : (sizes : List ℕ) (n : ℕ) → n < length sizes → total (take (suc n) sizes) ≡ total (take n sizes) + get_or sizes n 0
total_next [] n low = absurd (omega arith)
total_next (size ∷ sizes) zero low = omega arith
total_next (size ∷ sizes) (suc n) low = omega (arith, total_next sizes n (omega arith))

pub take_next : {X : Type 0} (xs : List X) (n : ℕ) (d : X) → n < length xs → take n xs ++ get_or xs n d ∷ [] ≡ take (suc n) xs
take_next [] n d low = absurd (omega arith)
take_next (x ∷ xs) zero d low = refl
take_next (x ∷ xs) (suc n) d low = ap (λ l. x ∷ l) (take_next xs n d (omega arith))

pub total_within : (sizes : List ℕ) (n : ℕ) → total (take n sizes) ≤ total sizes
total_within [] zero = omega arith
total_within [] (suc n) = omega arith
total_within (size ∷ sizes) zero = omega arith
total_within (size ∷ sizes) (suc n) = omega (arith, total_within sizes n)

none_taken : {X : Type 0} (xs : List X) (n : ℕ) → xs ≡ [] → take n xs ≡ []
none_taken [] zero e = refl
none_taken [] (suc n) e = refl
none_taken (x ∷ xs) zero e = refl
none_taken (x ∷ xs) (suc n) e = absurd (let h : length (x ∷ xs) ≡ 0 = ap length e in omega (arith, h))

none_dropped : {X : Type 0} (n : ℕ) (xs : List X) → xs ≡ [] → drop n xs ≡ []
none_dropped zero xs e = e
none_dropped (suc n) [] e = refl
none_dropped (suc n) (x ∷ xs) e = absurd (let h : length (x ∷ xs) ≡ 0 = ap length e in omega (arith, h))

pub take_more : {X : Type 0} (xs : List X) (a b : ℕ) → take a xs ++ take b (drop a xs) ≡ take (a + b) xs
take_more xs zero b = ap (λ n. take n xs) (from_zero b)
  where
    from_zero : (b : ℕ) → b ≡ zero + b
    from_zero b = omega arith
take_more [] (suc a) b = none_taken (drop (suc a) []) b (none_dropped (suc a) [] refl) ∙ sym (none_taken [] (suc a + b) refl)
take_more (x ∷ xs) (suc a) b = ap (λ l. x ∷ l) (take_more xs a b) ∙ ap (λ n. take n (x ∷ xs)) (from_next a b)
  where
    from_next : (a b : ℕ) → suc (a + b) ≡ suc a + b
    from_next a b = omega arith

pub taken_at : {X : Type 0} (xs : List X) (n i : ℕ) (x : X) → slice_get (take n xs) i ≡ Some x → slice_get xs i ≡ Some x
taken_at [] zero i x at = absurd (none-some x at)
taken_at [] (suc n) i x at = absurd (none-some x at)
taken_at (y ∷ xs) zero i x at = absurd (none-some x at)
taken_at (y ∷ xs) (suc n) zero x at = at
taken_at (y ∷ xs) (suc n) (suc i) x at = taken_at xs n i x at

-- ---- the first groups

module _ (sig : Signature) where
  pub first_numbered : (n : ℕ) → AreNumbered sig (first_groups sig n)
  first_numbered n d t at = taken_at sig.datatypes (before_group sig n) d t at

  pub first_own : HasOwnNames sig → (n : ℕ) → HasOwnNames (first_groups sig n)
  first_own own n = record {
    apart = λ d e t u at there same. own.apart d e t u (first_numbered n d t at) (first_numbered n e u there) same;
    not_bool = λ d t at. own.not_bool d t (first_numbered n d t at);
    not_int = λ d t at. own.not_int d t (first_numbered n d t at);
  }

  -- a group's datatypes stand behind those of the groups before it
  pub next_datatypes : (n : ℕ) → n < length sig.groups → take (before_group sig n) sig.datatypes ++ group_at sig n ≡ take (before_group sig (suc n)) sig.datatypes
  next_datatypes n low = take_more sig.datatypes (before_group sig n) (get_or sig.groups n 0) ∙ ap (λ k. take k sig.datatypes) (sym (total_next sig.groups n low))

  pub group_size : total sig.groups ≡ length sig.datatypes → (n : ℕ) → n < length sig.groups → length (group_at sig n) ≡ get_or sig.groups n 0
  group_size whole n low =
      let size : ℕ = get_or sig.groups n 0 in
      let left = length-drop (before_group sig n) sig.datatypes in
      let fits = total_within sig.groups (suc n) in
      let next = total_next sig.groups n low in
      length-take-le size (drop (before_group sig n) sig.datatypes) (omega arith)

-- ---- a group that was declared again

names_again : (sig : Signature) (ts : List Data) → map (λ (t : DataSpec). t.name) (group_again sig ts) ≡ map (λ (t : Data). t.name) ts
names_again sig [] = refl
names_again sig (t ∷ ts) = ap (λ l. t.name ∷ l) (names_again sig ts)

module _ (sig new : Signature) (own : HasOwnNames new) (same : AreNumbered sig new) where
  abbrev names : List (List ℕ)
  names = datatype_names new

  field_back : (f : Field) → sort_fits new f.sort ≡ true → field_declared names (field_again sig f) ≡ f
  field_back f fits =
      let known = (and_parts (fold-Sort Bool (is_declared_step new) f.sort) (nat_lt (sort_depth f.sort) 17) fits).0 in
      ap (λ (o : Option Sort). field_of (unwrap_or o sort.Bool)) (sort_meant_again sig new own same f.sort known).1
    where
      field_of : Sort → Field
      field_of s = record { name = f.name; sort = s }

  fields_back : (fs : List Field) → list_all (λ (f : Field). sort_fits new f.sort) fs ≡ true → map (field_declared names) (map (field_again sig) fs) ≡ fs
  fields_back [] fits = refl
  fields_back (f ∷ fs) fits =
      let parts = and_parts (sort_fits new f.sort) (list_all (λ (g : Field). sort_fits new g.sort) fs) fits in
      λ i. field_back f parts.0 i ∷ fields_back fs parts.1 i

  ctors_back : (ks : List Ctor) → list_all (ctor_fits new) ks ≡ true → map (ctor_declared names) (map (ctor_again sig) ks) ≡ ks
  ctors_back [] fits = refl
  ctors_back (k ∷ ks) fits =
      let parts = and_parts (ctor_fits new k) (list_all (ctor_fits new) ks) fits in
      λ i. ctor_of k (fields_back k.fields parts.0 i) ∷ ctors_back ks parts.1 i
    where
      ctor_of : Ctor → List Field → Ctor
      ctor_of k fields = record { name = k.name; fields = fields }

  pub datas_back : (ts : List Data) → list_all (data_fits new) ts ≡ true → map (data_declared names) (group_again sig ts) ≡ ts
  datas_back [] fits = refl
  datas_back (t ∷ ts) fits =
      let parts = and_parts (data_fits new t) (list_all (data_fits new) ts) fits in
      λ i. data_of t (ctors_back t.ctors parts.0 i) ∷ datas_back ts parts.1 i
    where
      data_of : Data → List Ctor → Data
      data_of t ctors = record { name = t.name; ctors = ctors }

-- ---- groups are added

module _ (sig : Signature) (comes : ComesInGroups sig) where
  -- what the lines of the first groups make
  abbrev pub grouped : ℕ → DraftView
  grouped n = record { logic = true; sig = first_groups sig n; preds = no_predicates; asserted = none_asserted }

  module _ (n : ℕ) (low : n < length sig.groups) where
    abbrev again : List DataSpec
    again = group_again sig (group_at sig n)

    known_names : names_with (first_groups sig n) again ≡ datatype_names (first_groups sig (suc n))
    known_names =
        ap (λ l. datatype_names (first_groups sig n) ++ l) (names_again sig (group_at sig n))
        ∙ sym (map-append (λ (t : Data). t.name) (take (before_group sig n) sig.datatypes) (group_at sig n))
        ∙ ap (map (λ (t : Data). t.name)) (next_datatypes sig n low)

    made_again : map (data_declared (names_with (first_groups sig n) again)) again ≡ group_at sig n
    made_again =
        ap (λ names. map (data_declared names) again) known_names
        ∙ datas_back sig (first_groups sig (suc n)) (first_own sig comes.own (suc n)) (first_numbered sig (suc n)) (group_at sig n) (comes.fields n low)

    -- the signature of the first groups with one more
    pub next_groups : with_group (first_groups sig n) again ≡ first_groups sig (suc n)
    next_groups =
        let datatypes = ap (λ l. take (before_group sig n) sig.datatypes ++ l) made_again ∙ next_datatypes sig n low in
        let size = length-map (group_at sig n) (data_again sig) ∙ group_size sig comes.whole n low in
        let groups = ap (λ k. take n sig.groups ++ k ∷ []) size ∙ take_next sig.groups n 0 low in
        λ i. signature_of (datatypes i) (groups i)
      where
        signature_of : List Data → List ℕ → Signature
        signature_of datatypes groups = record { datatypes = datatypes; groups = groups }

    pub group_verdict_again : group_verdict (first_groups sig n) again [] ≡ Ok (first_groups sig (suc n))
    group_verdict_again =
        ap (λ o. verdict_at o (first_without_value (with_group (first_groups sig n) again).datatypes) (with_group (first_groups sig n) again)) (comes.fits n low)
        ∙ ap (λ (s : Signature). verdict_at None (first_without_value s.datatypes) s) next_groups
        ∙ ap (λ o. verdict_at None o (first_groups sig (suc n))) (none_where_all (first_groups sig (suc n)).datatypes (comes.inhabited (suc n)))

    -- the tree of the group's line adds it
    pub group_command : (tree : Tree) → GroupIs sig (group_at sig n) tree → command (progress.Going (grouped n)) tree ≡ Ok (progress.Going (grouped (suc n)))
    group_command tree g =
        let place : ℕ = place_at (out-Tree tree) in
        let going : DraftView → Reading Progress = λ d. Ok (progress.Going d) in
        ap (command_at (grouped n) place) g.form
        ∙ (λ i. datatypes_parts (grouped n) place (g.head_group i) (g.body_group i) >>> going)
        ∙ ap (λ b. cond b (group_declared (grouped n) place g.head_trees g.body_trees) (bad place) >>> going) (group_shaped sig place (group_at sig n) tree g)
        ∙ ap (λ r. r >>> group_added (grouped n) place >>> going) (group_is_read sig place (group_at sig n) tree g)
        ∙ ap (λ r. added_at place r >>> (λ s. Ok (with_sig s (grouped n))) >>> going) group_verdict_again
