-- A signature that groups have made came group by group.
use Rattle.std.proofs.Common.{◌≡◌, ◌∙◌, ◌⊎◌, inl, inr, sym, ap, refl, subst, ℕ, suc, ◌+◌, ◌≤◌, ◌<◌, List, [], ◌∷◌, ◌++◌, length, map, take, drop, get_or, None, arith}
use Rattle.std.proofs.lemmas.Bool.{cases_lt, cases_order}
use Rattle.std.proofs.lemmas.List.{length-append, length-map, length-drop, length_push, take-append-le, take_at, take_all, drop_at, drop-append-le, get_or_append_left, get_or_push}
use Rattle.std.proofs.lemmas.Option.{none-some}
use Rattle.chc_sorts.specs.declared.data.Data.{Data}
use Rattle.chc_sorts.specs.declared.spec.DataSpec.{DataSpec}
use Rattle.chc_sorts.specs.Signature.{Signature, AllInhabited, no_datatypes}
use Rattle.chc_sorts.specs.Groups.{first_refusal, names_with, with_group, data_declared}
use Rattle.chc_sorts.specs.Made.{IsMade}
use Rattle.read_again.specs.FirstGroups.{total, before_group, first_groups, group_at}
use Rattle.read_again.proofs.GroupsAdded.{total_next, total_within, taken_at}

-- ---- a signature with a group behind it

total_push : (sizes : List ℕ) (size : ℕ) → total (sizes ++ size ∷ []) ≡ total sizes + size
total_push [] size = omega arith
total_push (first ∷ sizes) size = omega (arith, total_push sizes size)

module _ (sig : Signature) (whole : total sig.groups ≡ length sig.datatypes) (ts : List Data) (size : ℕ) (sized : length ts ≡ size) where
  -- the signature with the datatypes as a group of that size
  abbrev longer : Signature
  longer = record { datatypes = sig.datatypes ++ ts; groups = sig.groups ++ size ∷ [] }

  longer_whole : total (sig.groups ++ size ∷ []) ≡ length (sig.datatypes ++ ts)
  longer_whole = omega (arith, total_push sig.groups size, length-append sig.datatypes ts, whole, sized)

  before_within : (n : ℕ) → before_group sig n ≤ length sig.datatypes
  before_within n = omega (arith, whole, total_within sig.groups n)

  groups_before : (n : ℕ) → n ≤ length sig.groups → take n (sig.groups ++ size ∷ []) ≡ take n sig.groups
  groups_before n le = take-append-le n sig.groups (size ∷ []) le

  groups_all : take (length sig.groups) (sig.groups ++ size ∷ []) ≡ sig.groups
  groups_all = take_at sig.groups (size ∷ []) (length sig.groups) refl

  -- the groups of before come first
  first_before : (n : ℕ) → n ≤ length sig.groups → first_groups longer n ≡ first_groups sig n
  first_before n le =
      let datatypes : take (before_group longer n) (sig.datatypes ++ ts) ≡ take (before_group sig n) sig.datatypes =
      ap (λ sizes. take (total sizes) (sig.datatypes ++ ts)) (groups_before n le) ∙ take-append-le (before_group sig n) sig.datatypes ts (before_within n) in
      λ i. record { datatypes = datatypes i; groups = groups_before n le i }

  group_before : (n : ℕ) → n < length sig.groups → group_at longer n ≡ group_at sig n
  group_before n low =
      let own : ℕ = get_or sig.groups n 0 in
      let next = total_next sig.groups n low in
      let within = total_within sig.groups (suc n) in
      let rest = length-drop (before_group sig n) sig.datatypes in
      let le : n ≤ length sig.groups = omega (arith, low) in
      let fits : own ≤ length (drop (before_group sig n) sig.datatypes) = omega (arith, next, within, rest, whole) in
      ap (λ k. take k (drop (before_group longer n) (sig.datatypes ++ ts))) (get_or_append_left sig.groups (size ∷ []) 0 n low)
      ∙ ap (λ sizes. take own (drop (total sizes) (sig.datatypes ++ ts))) (groups_before n le)
      ∙ ap (take own) (drop-append-le (before_group sig n) sig.datatypes ts (before_within n))
      ∙ take-append-le own (drop (before_group sig n) sig.datatypes) ts fits

  -- then the datatypes
  first_all : first_groups longer (length sig.groups) ≡ sig
  first_all =
      let datatypes : take (before_group longer (length sig.groups)) (sig.datatypes ++ ts) ≡ sig.datatypes =
      ap (λ sizes. take (total sizes) (sig.datatypes ++ ts)) groups_all ∙ take_at sig.datatypes ts (total sig.groups) (sym whole) in
      λ i. record { datatypes = datatypes i; groups = groups_all i }

  group_last : group_at longer (length sig.groups) ≡ ts
  group_last =
      ap (λ k. take k (drop (before_group longer (length sig.groups)) (sig.datatypes ++ ts))) (get_or_push sig.groups size 0 (length sig.groups) refl)
      ∙ ap (λ sizes. take size (drop (total sizes) (sig.datatypes ++ ts))) groups_all
      ∙ ap (take size) (drop_at sig.datatypes ts (total sig.groups) (sym whole))
      ∙ take_all size ts (omega (arith, sized))

  -- and more groups than there are hold all datatypes
  all_past : (n : ℕ) → length sig.groups < n → take (before_group longer n) (sig.datatypes ++ ts) ≡ sig.datatypes ++ ts
  all_past n more =
      ap (λ sizes. take (total sizes) (sig.datatypes ++ ts)) (take_all n (sig.groups ++ size ∷ []) (omega (arith, more, length_push sig.groups size)))
      ∙ take_all (total (sig.groups ++ size ∷ [])) (sig.datatypes ++ ts) (omega (arith, longer_whole))

-- ---- the steps

-- nothing stood against the group that made these datatypes behind the signature
pub record IsStep (old : Signature) (ts : List Data) : Type 0 where
  pub group : List DataSpec
  pub preds : List (List ℕ)
  pub free : first_refusal old group preds ≡ None
  pub made : map (data_declared (names_with old group)) group ≡ ts

module _ (sig : Signature) (group : List DataSpec) (whole : total sig.groups ≡ length sig.datatypes) where
  -- the datatypes that the group makes
  abbrev made_by : List Data
  made_by = map (data_declared (names_with sig group)) group

  made_size : length made_by ≡ length group
  made_size = length-map group (data_declared (names_with sig group))

  whole_with : total (with_group sig group).groups ≡ length (with_group sig group).datatypes
  whole_with = longer_whole sig whole made_by (length group) made_size

  step_with : (n : ℕ) → n < length (with_group sig group).groups → IsStep sig made_by → (n < length sig.groups → IsStep (first_groups sig n) (group_at sig n))
      → IsStep (first_groups (with_group sig group) n) (group_at (with_group sig group) n)
  step_with n low last before = by (cases_order n (length sig.groups))
    where
      by : (n ≡ length sig.groups) ⊎ ((n < length sig.groups) ⊎ (length sig.groups < n)) → IsStep (first_groups (with_group sig group) n) (group_at (with_group sig group) n)
      by (inl e) =
          subst (λ k. IsStep (first_groups (with_group sig group) k) (group_at (with_group sig group) k)) (sym e)
          (subst (λ old. IsStep old (group_at (with_group sig group) (length sig.groups))) (sym (first_all sig whole made_by (length group) made_size))
          (subst (IsStep sig) (sym (group_last sig whole made_by (length group) made_size)) last))
      by (inr (inl l)) =
          subst (λ old. IsStep old (group_at (with_group sig group) n)) (sym (first_before sig whole made_by (length group) made_size n (omega (arith, l))))
          (subst (IsStep (first_groups sig n)) (sym (group_before sig whole made_by (length group) made_size n l)) (before l))
      by (inr (inr l)) = absurd (omega (arith, l, low, length_push sig.groups (length group)))

  inhabited_with : (n : ℕ) → AllInhabited (with_group sig group).datatypes → AllInhabited (first_groups sig n).datatypes → AllInhabited (first_groups (with_group sig group) n).datatypes
  inhabited_with n all before = by (cases_lt (length sig.groups) n)
    where
      by : (length sig.groups < n) ⊎ (n ≤ length sig.groups) → AllInhabited (first_groups (with_group sig group) n).datatypes
      by (inl more) = subst AllInhabited (sym (all_past sig whole made_by (length group) made_size n more)) all
      by (inr le) = subst (λ (s : Signature). AllInhabited s.datatypes) (sym (first_before sig whole made_by (length group) made_size n le)) before

pub made_whole : (sig : Signature) → IsMade sig → total sig.groups ≡ length sig.datatypes
made_whole _ IsMade.empty = refl
made_whole _ (IsMade.more sig group preds before free valued) = whole_with sig group (made_whole sig before)

-- each group was added to those before it
pub made_step : (sig : Signature) → IsMade sig → (n : ℕ) → n < length sig.groups → IsStep (first_groups sig n) (group_at sig n)
made_step _ IsMade.empty n low = absurd (omega (arith, low))
made_step _ (IsMade.more sig group preds before free valued) n low =
    step_with sig group (made_whole sig before) n low (record { group = group; preds = preds; free = free; made = refl }) (made_step sig before n)

-- all datatypes of the first groups have values
pub made_inhabited : (sig : Signature) → IsMade sig → (n : ℕ) → AllInhabited (first_groups sig n).datatypes
made_inhabited _ IsMade.empty n = ∣ (λ d t at. absurd (none-some t (taken_at [] (before_group no_datatypes n) d t at))) ∣₁
made_inhabited _ (IsMade.more sig group preds before free valued) n = inhabited_with sig group (made_whole sig before) n valued (made_inhabited sig before n)
