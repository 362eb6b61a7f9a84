-- What a world says of a selector on another constructor: always a value, where the field's sort has a default.
use Rattle.std.proofs.Common.{◌≡◌, ◌⊎◌, ℕ, List, [], ◌∷◌, Some, slice_get, inl, inr}
use native.Mathlib.Decide.{ℕ_discrete}
use Rattle.chc_sorts.specs.declared.sort.Sort.{Sort}
use Rattle.chc_sorts.specs.Signature.{Signature}
use Rattle.chc_values.specs.declared.value.Value.{Value}
use Rattle.chc_values.specs.declared.world.WorldEntry.{WorldEntry}
use Rattle.chc_values.specs.declared.world.WorldEntry.TheVariants as entry
use Rattle.chc_values.specs.Values.{HasFields}
use Rattle.chc_values.specs.Defaults.{IsDefault}
use Rattle.chc_values.specs.Worlds.{SelectsOpen}
use Rattle.chc_values.proofs.Equality.{value_decided}
use Rattle.chc_values.proofs.Membership.{In, In-from_contains, contains_from_In}

-- field i of constructor c, asked of a value of the datatype d
record Asked : Type 0 where
  datatype : ℕ
  constructor : ℕ
  field : ℕ
  key : Value

abbrev says : Asked → Value → WorldEntry
says a r = entry.Sel a.datatype a.constructor a.field a.key r

-- the entry says of that, or doesn't
abbrev Speaks : WorldEntry → Asked → Type 0
Speaks e a = ((x : Value) × (e ≡ says a x)) ⊎ ((x : Value) → e ≡ says a x → ⊥)

by_parts : (d c i : ℕ) (v r : Value) (a : Asked) → Dec (d ≡ a.datatype) → Dec (c ≡ a.constructor) → Dec (i ≡ a.field) → Dec (v ≡ a.key) → Speaks (entry.Sel d c i v r) a
by_parts d c i v r a (yes p) (yes q) (yes s) (yes t) = inl (r, λ j. entry.Sel (p j) (q j) (s j) (t j) r)
by_parts d c i v r a (no n) q s t = inr (λ x e. n cc)
by_parts d c i v r a (yes p) (no n) s t = inr (λ x e. n cc)
by_parts d c i v r a (yes p) (yes q) (no n) t = inr (λ x e. n cc)
by_parts d c i v r a (yes p) (yes q) (yes s) (no n) = inr (λ x e. n cc)

speaks : (e : WorldEntry) (a : Asked) → Speaks e a
speaks (entry.Sel d c i v r) a = by_parts d c i v r a (ℕ_discrete d a.datatype) (ℕ_discrete c a.constructor) (ℕ_discrete i a.field) (value_decided v a.key)
speaks (entry.Div0 m r) a = inr (λ x e. cc)
speaks (entry.Mod0 m r) a = inr (λ x e. cc)

-- some entry of the table says of that, or none does
abbrev Searched : List WorldEntry → Asked → Type 0
Searched w a = ((x : Value) × In w (says a x)) ⊎ ((x : Value) → In w (says a x) → ⊥)

found_next : (e : WorldEntry) (w : List WorldEntry) (a : Asked) → Speaks e a → Searched w a → Searched (e ∷ w) a
found_next e w a (inl h) s = inl (h.0, inl h.1)
found_next e w a (inr n) (inl s) = inl (s.0, inr s.1)
found_next e w a (inr n) (inr f) = inr (λ x. elim [ inl p ↦ n x p | inr i ↦ f x i ])

searched : (w : List WorldEntry) (a : Asked) → Searched w a
searched [] a = inr (λ x i. i)
searched (e ∷ w) a = found_next e w a (speaks e a) (searched w a)

module _ (sig : Signature) (w : List WorldEntry) (d c i : ℕ) (v : Value) (sorts : List Sort) (s : Sort) where
  abbrev asked : Asked
  asked = record { datatype = d; constructor = c; field = i; key = v }

  by_search : HasFields sig d c sorts → slice_get sorts i ≡ Some s → (u : Value) → IsDefault sig s u → Searched w asked → (r : Value) × SelectsOpen sig w d c i v r
  by_search h g u k (inl f) = (f.0, inl (contains_from_In w (entry.Sel d c i v f.0) f.1))
  by_search h g u k (inr n) = (u, inr ((λ x m. n x (In-from_contains w (entry.Sel d c i v x) m)), sorts, s, h, g, k))

  pub some_selected : HasFields sig d c sorts → slice_get sorts i ≡ Some s → (u : Value) → IsDefault sig s u → (r : Value) × SelectsOpen sig w d c i v r
  some_selected h g u k = by_search h g u k (searched w asked)
