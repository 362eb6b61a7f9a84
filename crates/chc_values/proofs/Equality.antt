-- Whether two values are equal can be decided: values have codes, one to one, which are trees of numbers.
use Rattle.std.proofs.Common.{◌≡◌, ap}
use Rattle.std.specs.Coded.{Coded}
use base.Stored.{Gv, gnil, gnum, gcons}
use native.Mathlib.Decide.{ℕ_discrete}
use Rattle.chc_values.specs.declared.value.Value.{Value}
use Rattle.chc_values.specs.contracts.value.Value as value_contract

both_same : (a b c d : Gv) → Dec (a ≡ c) → Dec (b ≡ d) → Dec (gcons a b ≡ gcons c d)
both_same a b c d (yes p) (yes q) = yes (λ i. gcons (p i) (q i))
both_same a b c d (yes p) (no q) = no (λ e. q cc)
both_same a b c d (no p) q = no (λ e. p cc)

codes_decided : (x y : Gv) → Dec (x ≡ y)
codes_decided gnil gnil = yes (λ i. gnil)
codes_decided gnil (gnum n) = no (λ e. cc)
codes_decided gnil (gcons a b) = no (λ e. cc)
codes_decided (gnum n) gnil = no (λ e. cc)
codes_decided (gnum n) (gnum k) = elim (ℕ_discrete n k) [ yes p ↦ yes (ap gnum p) | no p ↦ no (λ e. p cc) ]
codes_decided (gnum n) (gcons a b) = no (λ e. cc)
codes_decided (gcons a b) gnil = no (λ e. cc)
codes_decided (gcons a b) (gnum n) = no (λ e. cc)
codes_decided (gcons a b) (gcons c d) = both_same a b c d (codes_decided a c) (codes_decided b d)

-- equality in a type with codes is decided by the codes
pub by_code : {A : Type 0} → Coded A → (x y : A) → Dec (x ≡ y)
by_code c x y = elim (codes_decided (c.code x) (c.code y)) [ yes p ↦ yes (c.inj x y p) | no p ↦ no (λ e. p (ap c.code e)) ]

-- two values are equal or not
pub value_decided : (x y : Value) → Dec (x ≡ y)
value_decided x y = by_code value_contract.the_row.coded x y
