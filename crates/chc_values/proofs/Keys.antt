-- Keys of a world's entries, and selectors that fit.
use Rattle.std.proofs.Common.{◌≡◌, ◌≢◌, ◌↔◌, ℕ, Bool, IsTrue, List, [], ◌∷◌, ◌++◌, map, Option, MatchOption, Some, None, inl, inr, refl, sym, ap, ◌∙◌, subst}
use Rattle.std.specs.List.{slice_get}
use denote.Ref.{Bor}
use Rattle.std.specs.Option.{option_copied, option_map}
use Rattle.std.proofs.lemmas.Option.{same_Some, none-some, slice_get-map}
use Rattle.std.proofs.lemmas.List.Elements.{All-nil, All-push}
use Rattle.chc_sorts.specs.declared.sort.Sort.{Sort}
use Rattle.chc_sorts.specs.declared.sort.Sort.TheVariants as sort
use Rattle.chc_sorts.specs.declared.data.Field.{Field}
use Rattle.chc_sorts.specs.Signature.{Signature}
use Rattle.chc_values.specs.declared.value.Value.{Value}
use Rattle.chc_values.specs.declared.value.Value.TheVariants as value
use Rattle.chc_values.specs.declared.world.WorldEntry.{WorldEntry}
use Rattle.chc_values.specs.declared.world.WorldEntry.TheVariants as entry
use Rattle.chc_values.specs.Values.{HasFields, IsOf}
use Rattle.chc_values.specs.Worlds.{SameKey, KeysOnce, EntryFits, IsFieldSort, HasKey}
use Rattle.chc_values.proofs.Membership.{In-from_contains, contains_from_In}
use Rattle.chc_values.proofs.Datatypes.{one_fields}

SameKey-sym : (e x : WorldEntry) → SameKey e x → SameKey x e
SameKey-sym (entry.Sel d c i v r) x k = subst (λ z. SameKey z (entry.Sel d c i v r)) (sym k.1) (r, refl)
SameKey-sym (entry.Div0 m r) x k = subst (λ z. SameKey z (entry.Div0 m r)) (sym k.1) (r, refl)
SameKey-sym (entry.Mod0 m r) x k = subst (λ z. SameKey z (entry.Mod0 m r)) (sym k.1) (r, refl)

-- an entry of a new key leaves the keys apart
pub KeysOnce-added : (w : List WorldEntry) (e : WorldEntry) → KeysOnce w → (HasKey w e → ⊥) → KeysOnce (w ++ e ∷ [])
KeysOnce-added [] e k n = (All-nil (λ other. SameKey e other → ⊥), tt)
KeysOnce-added (x ∷ w) e k n = (
  All-push (λ other. SameKey x other → ⊥) w e k.0 (λ s. n (x, contains_from_In (x ∷ w) x (inl refl), SameKey-sym x e s)),
  KeysOnce-added w e k.1 (λ h. n (h.0, contains_from_In (x ∷ w) h.0 (inr (In-from_contains w h.0 h.1)), h.2)),
)

-- a declared field has one sort
pub one_field : (sig : Signature) (d c i : ℕ) (s t : Sort) → IsFieldSort sig d c i s → IsFieldSort sig d c i t → s ≡ t
one_field sig d c i s t p q =
    same_Some s t (sym p.2 ∙ ap (λ ss. slice_get ss i) (one_fields sig d c p.0 q.0 p.1 q.1) ∙ q.2)

-- an answer that refers to what is wanted
matched : {X : Type 0} (P : Type 0) (Q : X → Type 0) (o : Option (Bor X)) → MatchOption (option_copied o) P Q → MatchOption o P (λ b. Q b.now)
matched P Q None h = h
matched P Q (Some b) h = h

module _ (sig : Signature) (d c i : ℕ) (fields : List Field) (has : HasFields sig d c (map (λ (f : Field). f.sort) fields)) where
  abbrev sorts : List Sort
  sorts = map (λ (f : Field). f.sort) fields

  field_by : (o : Option Field) → slice_get fields i ≡ o → MatchOption o ((s : Sort) → IsFieldSort sig d c i s → ⊥) (λ f. IsFieldSort sig d c i f.sort)
  field_by None e = λ s q.
      let at : slice_get sorts i ≡ Some s = ap (λ ss. slice_get ss i) (one_fields sig d c sorts q.0 has q.1) ∙ q.2 in
      none-some s (sym (slice_get-map (λ (f : Field). f.sort) fields i ∙ ap (option_map (λ (f : Field). f.sort)) e) ∙ at)
  field_by (Some f) e = (sorts, has, slice_get-map (λ (g : Field). g.sort) fields i ∙ ap (option_map (λ (g : Field). g.sort)) e)

  pub field_found : (o : Option (Bor Field)) → option_copied o ≡ slice_get fields i → MatchOption o ((s : Sort) → IsFieldSort sig d c i s → ⊥) (λ f. IsFieldSort sig d c i f.now.sort)
  field_found o e = matched ((s : Sort) → IsFieldSort sig d c i s → ⊥) (λ (f : Field). IsFieldSort sig d c i f.sort) o (field_by (option_copied o) (sym e))

-- the value is of the datatype d by another constructor than c
abbrev IsKey : Signature → ℕ → ℕ → Value → Type 0
IsKey sig d c v = (k : ℕ) × (fields : List Value) × (v ≡ value.Data d k fields) × (k ≢ c) × IsOf sig v (sort.Data d)

module _ (sig : Signature) (d c i : ℕ) (v r : Value) where
  pub fits_declared : EntryFits sig (entry.Sel d c i v r) → (s : Sort) × IsFieldSort sig d c i s
  fits_declared h = (h.1, (h.0, h.4, h.5))

  pub fits_key : EntryFits sig (entry.Sel d c i v r) → IsKey sig d c v
  fits_key h = (h.2, h.3, h.6, h.7, h.8)

  pub fits_test : (t : Bool) (s : Sort) → IsFieldSort sig d c i s → IsKey sig d c v → (IsTrue t ↔ IsOf sig r s) → IsTrue t ↔ EntryFits sig (entry.Sel d c i v r)
  fits_test t s f k h = (
    λ e. (f.0, s, k.0, k.1, f.1, f.2, k.2, k.3, k.4, h.0 e),
    λ g. h.1 (subst (IsOf sig r) (one_field sig d c i g.1 s (g.0, g.4, g.5) f) g.9),
  )
