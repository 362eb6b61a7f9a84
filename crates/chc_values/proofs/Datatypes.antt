-- Values of datatypes: the fields of a constructor, defaults, and what a world says of a selector on another constructor.
use Rattle.std.proofs.Common.{◌≡◌, ◌⊎◌, ℕ, ◌<◌, pos, false, ℤ, List, [], ◌∷◌, map, Some, All, Contains, slice_get, inl, inr, refl, sym, ap, ◌∙◌, subst, arith}
use Rattle.std.proofs.Math.Decide.{dec_lt}
use Rattle.std.proofs.lemmas.Option.{same_Some}
use Rattle.std.proofs.lemmas.List.Elements.{All-contains}
use Rattle.chc_sorts.specs.declared.sort.Sort.{Sort}
use Rattle.chc_sorts.specs.declared.sort.Sort.TheVariants as sort
use Rattle.chc_sorts.specs.declared.data.Data.{Data}
use Rattle.chc_sorts.specs.declared.data.Ctor.{Ctor}
use Rattle.chc_sorts.specs.declared.data.Field.{Field}
use Rattle.chc_sorts.specs.Signature.{Signature}
use Rattle.chc_values.specs.declared.value.Value.{Value, Value-F, out-Value}
use Rattle.chc_values.specs.declared.value.Value.TheVariants as value
use Rattle.chc_values.specs.declared.world.WorldEntry.{WorldEntry}
use Rattle.chc_values.specs.declared.world.WorldEntry.TheVariants as entry
use Rattle.chc_values.specs.Values.{HasFields, IsOf, AreOf}
use Rattle.chc_values.specs.Defaults.{HeightsWithin, IsFirstLeast, IsDefault, bool, int, array, datatype, AreDefaults, none, more}
use Rattle.chc_values.specs.Worlds.{SelectsOpen, KeysOnce, EntryFits}
use Rattle.chc_values.proofs.Membership.{In-from_contains}
use Rattle.chc_values.proofs.Exceptions.{IsCanonical-from}
use Rattle.chc_values.proofs.Lookups.{one_line}
use Rattle.chc_values.proofs.ValueSorts.{IsOf-Bool, IsOf-Int, IsOf-Data, array_of, HoldsOf, same_element, Bool≢Int, Bool≢Data, Bool≢Array, Int≢Data, Int≢Array, Data≢Array}

-- the sorts of a constructor's fields are the only ones
pub one_fields : (sig : Signature) (d c : ℕ) (ss ts : List Sort) → HasFields sig d c ss → HasFields sig d c ts → ss ≡ ts
one_fields sig d c ss ts p q =
    let t : p.0 ≡ q.0 = same_Some p.0 q.0 (sym p.2 ∙ q.2) in
    let k : p.1 ≡ q.1 = same_Some p.1 q.1 (sym p.3 ∙ ap (λ (x : Data). slice_get x.ctors c) t ∙ q.3) in
    sym p.4 ∙ ap (λ (x : Ctor). map (λ (f : Field). f.sort) x.fields) k ∙ q.4

-- a datatype's value that is made in two ways
pub same_data : (d c e k : ℕ) (vs us : List Value) → value.Data d c vs ≡ value.Data e k us → (d ≡ e) × (c ≡ k) × (vs ≡ us)
same_data d c e k vs us h =
    let f : Value-F.Data d c vs ≡ Value-F.Data e k us = sym (value.outs-Data d c vs) ∙ ap out-Value h ∙ value.outs-Data e k us in (cc, cc, cc)

pub same_datatype : (d e : ℕ) → sort.Data d ≡ sort.Data e → d ≡ e
same_datatype d e h = cc

-- what a datatype's value holds
pub fields_held : (sig : Signature) (d c : ℕ) (vs : List Value) (e : ℕ) → IsOf sig (value.Data d c vs) (sort.Data e) → (sorts : List Sort) × HasFields sig d c sorts × AreOf sig vs sorts
fields_held sig d c vs e h = let t = subst (λ A. A) (IsOf-Data sig d c vs (sort.Data e)) h in (t.0, t.2, t.3)

module _ (sig : Signature) where
  pub data_of : (d c : ℕ) (vs : List Value) (sorts : List Sort) → HasFields sig d c sorts → AreOf sig vs sorts → IsOf sig (value.Data d c vs) (sort.Data d)
  data_of d c vs sorts h a = subst (λ A. A) (sym (IsOf-Data sig d c vs (sort.Data d))) (sorts, refl, h, a)

  -- a default is of its sort
  mutual
    pub default_of : {s : Sort} {v : Value} → IsDefault sig s v → IsOf sig v s
    default_of bool = subst (λ A. A) (sym (IsOf-Bool sig false sort.Bool)) refl
    default_of int = subst (λ A. A) (sym (IsOf-Int sig (pos 0) sort.Int)) refl
    default_of (array s v d) =
        array_of sig v [] s (record { default_of = default_of d; each_of = tt; canonical = IsCanonical-from v [] (record { ascends = tt; no_defaults = tt }) })
    default_of (datatype d c sorts vs h ds) = data_of d c vs sorts h.fields (defaults_of ds)

    pub defaults_of : {ss : List Sort} {vs : List Value} → AreDefaults sig ss vs → AreOf sig vs ss
    defaults_of none = tt
    defaults_of (more s ss v vs d ds) = (default_of d, defaults_of ds)

  -- a constructor of least height that is the first of them is the only one
  one_first : (d c k : ℕ) (ss ts : List Sort) → IsFirstLeast sig d c ss → IsFirstLeast sig d k ts → c ≡ k
  one_first d c k ss ts p q = by_height (dec_lt p.height q.height) (dec_lt q.height p.height)
    where
      by_place : p.height ≡ q.height → Dec (c < k) → Dec (k < c) → c ≡ k
      by_place e (yes l) m = absurd (q.first c ss l p.fields (subst (λ h. HeightsWithin sig h ss) e p.within))
      by_place e (no n) (yes l) = absurd (p.first k ts l q.fields (subst (λ h. HeightsWithin sig h ts) (sym e) q.within))
      by_place e (no n) (no m) = omega arith

      by_height : Dec (p.height < q.height) → Dec (q.height < p.height) → c ≡ k
      by_height (yes l) m = absurd (q.least c p.height ss p.fields p.within l)
      by_height (no n) (yes l) = absurd (p.least k q.height ts q.fields q.within l)
      by_height (no n) (no m) = by_place (omega arith) (dec_lt c k) (dec_lt k c)

  -- the cases of a default, by the sort
  data DefaultCase (s : Sort) (v : Value) : Type 0 where
    bool_case : s ≡ sort.Bool → v ≡ value.Bool false → DefaultCase s v
    int_case : s ≡ sort.Int → v ≡ value.Int (pos 0) → DefaultCase s v
    array_case : (t : Sort) (u : Value) → s ≡ sort.Array t → v ≡ value.Array u [] → IsDefault sig t u → DefaultCase s v
    data_case : (d c : ℕ) (ss : List Sort) (vs : List Value) → s ≡ sort.Data d → v ≡ value.Data d c vs → IsFirstLeast sig d c ss → AreDefaults sig ss vs → DefaultCase s v

  case_of : {s : Sort} {v : Value} → IsDefault sig s v → DefaultCase s v
  case_of bool = bool_case refl refl
  case_of int = int_case refl refl
  case_of (array s v d) = array_case s v refl refl d
  case_of (datatype d c ss vs h ds) = data_case d c ss vs refl refl h ds

  bool_default : (v : Value) → DefaultCase sort.Bool v → v ≡ value.Bool false
  bool_default v (bool_case e f) = f
  bool_default v (int_case e f) = absurd (Bool≢Int e)
  bool_default v (array_case t u e f d) = absurd (Bool≢Array t e)
  bool_default v (data_case d c ss vs e f h ds) = absurd (Bool≢Data d e)

  int_default : (v : Value) → DefaultCase sort.Int v → v ≡ value.Int (pos 0)
  int_default v (bool_case e f) = absurd (Bool≢Int (sym e))
  int_default v (int_case e f) = f
  int_default v (array_case t u e f d) = absurd (Int≢Array t e)
  int_default v (data_case d c ss vs e f h ds) = absurd (Int≢Data d e)

  array_default : (s : Sort) (v : Value) → DefaultCase (sort.Array s) v → (u : Value) × (v ≡ value.Array u []) × IsDefault sig s u
  array_default s v (bool_case e f) = absurd (Bool≢Array s (sym e))
  array_default s v (int_case e f) = absurd (Int≢Array s (sym e))
  array_default s v (array_case t u e f d) = (u, f, subst (λ x. IsDefault sig x u) (sym (same_element s t e)) d)
  array_default s v (data_case d c ss vs e f h ds) = absurd (Data≢Array d s (sym e))

  data_default : (d : ℕ) (v : Value) → DefaultCase (sort.Data d) v → (c : ℕ) × (ss : List Sort) × (vs : List Value) × (v ≡ value.Data d c vs) × IsFirstLeast sig d c ss × AreDefaults sig ss vs
  data_default d v (bool_case e f) = absurd (Bool≢Data d (sym e))
  data_default d v (int_case e f) = absurd (Int≢Data d (sym e))
  data_default d v (array_case t u e f x) = absurd (Data≢Array d t e)
  data_default d v (data_case k c ss vs e f h ds) =
      let p = same_datatype d k e in
      (c, ss, vs, f ∙ ap (λ x. value.Data x c vs) (sym p), subst (λ x. IsFirstLeast sig x c ss) (sym p) h, ds)

  more_defaults : (s : Sort) (ss : List Sort) (vs : List Value) → AreDefaults sig (s ∷ ss) vs → (u : Value) × (us : List Value) × (vs ≡ u ∷ us) × IsDefault sig s u × AreDefaults sig ss us
  more_defaults s ss vs (more t ts u us d ds) = (u, us, refl, d, ds)

  no_defaults_left : (vs : List Value) → AreDefaults sig [] vs → vs ≡ []
  no_defaults_left vs none = refl

  -- a sort has one default
  mutual
    pub one_default : {s : Sort} {v : Value} → IsDefault sig s v → (u : Value) → IsDefault sig s u → v ≡ u
    one_default bool u e = sym (bool_default u (case_of e))
    one_default int u e = sym (int_default u (case_of e))
    one_default (array s v d) u e = let t = array_default s u (case_of e) in ap (λ x. value.Array x []) (one_default d t.0 t.2) ∙ sym t.1
    one_default (datatype d c ss vs h ds) u e =
        let t = data_default d u (case_of e) in
        let k = one_first d c t.0 ss t.1 h t.4 in
        let l = one_fields sig d c ss t.1 h.fields (subst (λ x. HasFields sig d x t.1) (sym k) t.4.fields) in
        let v = ones_default ds t.2 (subst (λ x. AreDefaults sig x t.2) (sym l) t.5) in
        (λ i. value.Data d (k i) (v i)) ∙ sym t.3

    pub ones_default : {ss : List Sort} {vs : List Value} → AreDefaults sig ss vs → (us : List Value) → AreDefaults sig ss us → vs ≡ us
    ones_default none us e = sym (no_defaults_left us e)
    ones_default (more s ss v vs d ds) us e =
        let t = more_defaults s ss us e in
        let p = one_default d t.0 t.3 in let q = ones_default ds t.1 t.4 in (λ i. p i ∷ q i) ∙ sym t.2

-- a selector's key
abbrev Selection : Type 0
Selection = record { datatype : ℕ; constructor : ℕ; field : ℕ; key : Value }

abbrev selects : Selection → Value → WorldEntry
selects k r = entry.Sel k.datatype k.constructor k.field k.key r

same_selected : (k : Selection) (x y : Value) → selects k x ≡ selects k y → x ≡ y
same_selected k x y e = cc

-- a world says one value of a selector on another constructor
pub one_selected : (sig : Signature) (w : List WorldEntry) (d c i : ℕ) (v x y : Value) → KeysOnce w → SelectsOpen sig w d c i v x → SelectsOpen sig w d c i v y → x ≡ y
one_selected sig w d c i v x y k (inl p) (inl q) =
    one_line Selection Value selects (λ m x y. (y, refl)) same_selected w (record { datatype = d; constructor = c; field = i; key = v }) x y k
    (In-from_contains w (entry.Sel d c i v x) p) (In-from_contains w (entry.Sel d c i v y) q)
one_selected sig w d c i v x y k (inl p) (inr q) = absurd (q.0 x p)
one_selected sig w d c i v x y k (inr p) (inl q) = absurd (p.0 y q)
one_selected sig w d c i v x y k (inr p) (inr q) =
    let e = one_fields sig d c p.1 q.1 p.3 q.3 in
    let s : p.2 ≡ q.2 = same_Some p.2 q.2 (sym p.4 ∙ ap (λ ss. slice_get ss i) e ∙ q.4) in
    one_default sig (subst (λ t. IsDefault sig t x) s p.5) y q.5

-- and it is of the field's sort
pub selected_of : (sig : Signature) (w : List WorldEntry) (d c i : ℕ) (v r : Value) (sorts : List Sort) (s : Sort) → All (EntryFits sig) w → HasFields sig d c sorts → slice_get sorts i ≡ Some s
    → SelectsOpen sig w d c i v r → IsOf sig r s
selected_of sig w d c i v r sorts s fits h g (inl p) =
    let e = All-contains (EntryFits sig) w (entry.Sel d c i v r) fits p in
    let f = one_fields sig d c e.0 sorts e.4 h in
    subst (IsOf sig r) (same_Some e.1 s (sym e.5 ∙ ap (λ ss. slice_get ss i) f ∙ g)) e.9
selected_of sig w d c i v r sorts s fits h g (inr p) =
    let f = one_fields sig d c p.1 sorts p.3 h in
    subst (IsOf sig r) (same_Some p.2 s (sym p.4 ∙ ap (λ ss. slice_get ss i) f ∙ g)) (default_of sig p.5)
