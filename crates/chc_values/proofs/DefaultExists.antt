-- Every declared sort has a default, where every datatype has a value.
use Rattle.std.proofs.Common.{◌≡◌, ℕ, zero, suc, ◌+◌, ◌<◌, ◌≤◌, pos, Bool, true, false, List, [], ◌∷◌, length, map, Some, None, slice_get, replicate, refl, sym, ap, ◌∙◌, arith}
use Rattle.std.specs.List.{list_all}
use Rattle.std.proofs.Math.Logic.{∥∥₁_map}
use Rattle.std.proofs.lemmas.Option.{none-some, same_Some}
use Rattle.chc_sorts.specs.declared.sort.Sort.{Sort, fold-Sort}
use Rattle.chc_sorts.specs.declared.sort.Sort.TheVariants as sort
use Rattle.chc_sorts.specs.declared.data.Data.{Data}
use Rattle.chc_sorts.specs.declared.data.Field.{Field}
use Rattle.chc_sorts.specs.Signature.{Signature, IsInhabited, AllInhabited}
use Rattle.chc_sorts.specs.Sorts.{is_declared_step}
use Rattle.chc_sorts.specs.WellFounded.{is_field_known, is_ctor_known, is_data_known, are_fields_known, IsWellFounded}
use Rattle.chc_values.specs.declared.choice.Choice.{Choice}
use Rattle.chc_values.specs.declared.value.Value.{Value}
use Rattle.chc_values.specs.declared.value.Value.TheVariants as value
use Rattle.chc_values.specs.Values.{HasFields}
use Rattle.chc_values.specs.Defaults.{IsDefault, bool, int, array, datatype, AreDefaults, none, more}
use Rattle.chc_values.specs.Choices.{is_below, is_within, next_choices, AreChoices, AreAllBelow}
use Rattle.chc_values.proofs.Choosing.{Choices, gaps, nat_lt-true, each_sort, within-Data, within-Array, both, told, there_is, gap_filled, all_below_next, all_below_at_first, gaps_at_first}
use Rattle.chc_values.proofs.Building.{is_declared, declared-Data, declared-Array}

-- choices that are right, and tell of the datatype d
record TellsOf (sig : Signature) (d : ℕ) : Type 0 where
  choices : Choices
  height : ℕ
  right : AreChoices sig choices
  below : is_below (slice_get choices d) height ≡ true

-- they are found, for a datatype that has a value
module _ (sig : Signature) (d : ℕ) (inhabited : ∥ IsInhabited sig.datatypes (sort.Data d) ∥₁) where
  told_or : (n : ℕ) (choices : Choices) → AreAllBelow sig n choices → (b : Bool) → is_below (slice_get choices d) n ≡ b
      → (is_below (slice_get choices d) n ≡ false → TellsOf sig d) → TellsOf sig d
  told_or n choices h true e later = record { choices = choices; height = n; right = h.right; below = e }
  told_or n choices h false e later = later e

  -- the rounds from n on, of which each but the last fills a gap
  rounds_from : (room n : ℕ) (choices : Choices) → AreAllBelow sig n choices → gaps choices ≤ room → TellsOf sig d
  rounds_from zero n choices h l =
      told_or n choices h (is_below (slice_get choices d) n) refl (λ e. absurd (let f = gap_filled sig n choices h d inhabited e in omega arith))
  rounds_from (suc room) n choices h l =
      told_or n choices h (is_below (slice_get choices d) n) refl
      (λ e. rounds_from room (n + 1) (next_choices choices n sig.datatypes choices) (all_below_next sig n choices h) (let f = gap_filled sig n choices h d inhabited e in omega arith))

  some_rounds : TellsOf sig d
  some_rounds =
      rounds_from (length sig.datatypes) 0 (replicate (length sig.datatypes) None) (all_below_at_first sig _ refl) (let g = gaps_at_first (length sig.datatypes) in omega arith)

-- the sort has a default
abbrev pub HasDefault : Signature → Sort → Type 0
HasDefault sig s = (v : Value) × IsDefault sig s v

array_default : (sig : Signature) (s : Sort) → HasDefault sig s → HasDefault sig (sort.Array s)
array_default sig s h = (value.Array h.0 [], array s h.0 h.1)

module _ (sig : Signature) (choices : Choices) (right : AreChoices sig choices) where
  -- the defaults of sorts that are told to be within n
  abbrev DefaultsWithin : ℕ → Type 0
  DefaultsWithin n = (s : Sort) → is_within choices n s ≡ true → HasDefault sig s

  all_defaults : (n : ℕ) → DefaultsWithin n → (ss : List Sort) → list_all (is_within choices n) ss ≡ true → (vs : List Value) × AreDefaults sig ss vs
  all_defaults n f [] h = ([], none)
  all_defaults n f (s ∷ ss) h =
      let b = both (is_within choices n s) (list_all (is_within choices n) ss) h in
      let v = f s b.0 in let vs = all_defaults n f ss b.1 in
      (v.0 ∷ vs.0, more s ss v.0 vs.0 v.1 vs.1)

  -- from the defaults of the fields of the choice
  datatype_default : (d : ℕ) (k : Choice) → slice_get choices d ≡ Some (Some k) → DefaultsWithin k.height → HasDefault sig (sort.Data d)
  datatype_default d k e f =
      let c = right d k e in let vs = all_defaults k.height f c.sorts c.within in
      (value.Data d k.ctor vs.0, datatype d k.ctor c.sorts vs.0 c.first vs.1)

  sort_default : (n : ℕ) → ((d : ℕ) (k : Choice) → slice_get choices d ≡ Some (Some k) → k.height < n → HasDefault sig (sort.Data d)) → DefaultsWithin n
  sort_default n f = each_sort (λ s. is_within choices n s ≡ true → HasDefault sig s) (record {
    of_bool = λ h. (value.Bool false, bool);
    of_int = λ h. (value.Int (pos 0), int);
    of_data = λ d h. let t = told (slice_get choices d) n (sym (within-Data choices n d) ∙ h) in f d t.chosen t.there t.under;
    of_array = λ s g h. array_default sig s (g (sym (within-Array choices n s) ∙ h));
  })

  -- the choice of a datatype is of a lesser height
  within_default : (room n : ℕ) → n ≤ room → DefaultsWithin n
  within_default zero n l = sort_default n (λ d k e u. absurd (omega arith))
  within_default (suc room) n l = sort_default n (λ d k e u. datatype_default d k e (within_default room k.height (omega arith)))

-- a datatype that is told of has a default
told_default : (sig : Signature) (d : ℕ) → TellsOf sig d → HasDefault sig (sort.Data d)
told_default sig d t =
    let within = within-Data t.choices t.height d ∙ t.below in
    within_default sig t.choices t.right t.height t.height (omega arith) (sort.Data d) within

-- each of the datatypes has a value
one_inhabited : (ds : List Data) → AllInhabited ds → (d : ℕ) → d < length ds → ∥ IsInhabited ds (sort.Data d) ∥₁
one_inhabited ds all d l = let t = there_is ds d l in ∥∥₁_map all (λ each. each d t.0 t.1)

-- where every datatype has a value, every declared sort has a default
pub some_default : (sig : Signature) → AllInhabited sig.datatypes → (s : Sort) → fold-Sort Bool (is_declared_step sig) s ≡ true → HasDefault sig s
some_default sig all = each_sort (λ s. is_declared sig s ≡ true → HasDefault sig s) (record {
  of_bool = λ h. (value.Bool false, bool);
  of_int = λ h. (value.Int (pos 0), int);
  of_data = λ d h.
      let below = nat_lt-true d (length sig.datatypes) (sym (declared-Data sig d) ∙ h) in
      told_default sig d (some_rounds sig d (one_inhabited sig.datatypes all d below));
  of_array = λ s f h. array_default sig s (f (sym (declared-Array sig s) ∙ h));
})

-- what holds of all holds at a place
at_place : {X : Type 0} (p : X → Bool) (xs : List X) (i : ℕ) (x : X) → list_all p xs ≡ true → slice_get xs i ≡ Some x → p x ≡ true
at_place p [] i x h e = absurd (none-some x e)
at_place p (y ∷ ys) zero x h e = ap p (sym (same_Some y x e)) ∙ (both (p y) (list_all p ys) h).0
at_place p (y ∷ ys) (suc i) x h e = at_place p ys i x (both (p y) (list_all p ys) h).1 e

field_at_place : (sig : Signature) (fs : List Field) (i : ℕ) (s : Sort) → list_all (is_field_known sig) fs ≡ true → slice_get (map (λ (f : Field). f.sort) fs) i ≡ Some s
    → fold-Sort Bool (is_declared_step sig) s ≡ true
field_at_place sig [] i s h e = absurd (none-some s e)
field_at_place sig (f ∷ fs) zero s h e = ap (is_declared sig) (sym (same_Some f.sort s e)) ∙ (both (is_field_known sig f) (list_all (is_field_known sig) fs) h).0
field_at_place sig (f ∷ fs) (suc i) s h e = field_at_place sig fs i s (both (is_field_known sig f) (list_all (is_field_known sig) fs) h).1 e

-- the sort of a field names datatypes of the signature alone, where all do
field_declared : (sig : Signature) (d c i : ℕ) (sorts : List Sort) (s : Sort) → are_fields_known sig ≡ true → HasFields sig d c sorts → slice_get sorts i ≡ Some s
    → fold-Sort Bool (is_declared_step sig) s ≡ true
field_declared sig d c i sorts s h f e =
    field_at_place sig f.1.fields i s (at_place (is_ctor_known sig) f.0.ctors c f.1 (at_place (is_data_known sig) sig.datatypes d f.0 h f.2) f.3)
    (ap (λ ss. slice_get ss i) f.4 ∙ e)

-- the sort of a field of a well founded signature has a default
pub field_default : (sig : Signature) → IsWellFounded sig → (d c i : ℕ) (sorts : List Sort) (s : Sort) → HasFields sig d c sorts → slice_get sorts i ≡ Some s → HasDefault sig s
field_default sig founded d c i sorts s f e = some_default sig founded.inhabited s (field_declared sig d c i sorts s founded.known f e)
