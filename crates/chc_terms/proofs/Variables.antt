-- Values of variables: joined, and at a place.
use Rattle.std.proofs.Common.{◌≡◌, ℕ, zero, suc, List, [], ◌∷◌, ◌++◌, Some, slice_get, refl, subst}
use Rattle.std.proofs.lemmas.Option.{none-some, same_Some}
use Rattle.chc_sorts.specs.declared.sort.Sort.{Sort}
use Rattle.chc_sorts.specs.Signature.{Signature}
use Rattle.chc_values.specs.declared.value.Value.{Value}
use Rattle.chc_values.specs.Values.{IsOf, AreOf}

pub AreOf-append : (sig : Signature) (us vs : List Value) (ss ts : List Sort) → AreOf sig us ss → AreOf sig vs ts → AreOf sig (us ++ vs) (ss ++ ts)
AreOf-append sig [] vs [] ts a b = b
AreOf-append sig [] vs (s ∷ ss) ts a b = absurd a
AreOf-append sig (u ∷ us) vs [] ts a b = absurd a
AreOf-append sig (u ∷ us) vs (s ∷ ss) ts a b = (a.0, AreOf-append sig us vs ss ts a.1 b)

pub AreOf-get : (sig : Signature) (vs : List Value) (ss : List Sort) (i : ℕ) (v : Value) (s : Sort) → AreOf sig vs ss → slice_get vs i ≡ Some v → slice_get ss i ≡ Some s → IsOf sig v s
AreOf-get sig [] ss i v s a e f = absurd (none-some v e)
AreOf-get sig (u ∷ us) [] i v s a e f = absurd (none-some s f)
AreOf-get sig (u ∷ us) (t ∷ ts) zero v s a e f = subst (λ x. IsOf sig x s) (same_Some u v e) (subst (IsOf sig u) (same_Some t s f) a.0)
AreOf-get sig (u ∷ us) (t ∷ ts) (suc i) v s a e f = AreOf-get sig us ts i v s a.1 e f

pub AreOf-some : (sig : Signature) (vs : List Value) (ss : List Sort) (i : ℕ) (s : Sort) → AreOf sig vs ss → slice_get ss i ≡ Some s → (v : Value) × (slice_get vs i ≡ Some v)
AreOf-some sig vs [] i s a e = absurd (none-some s e)
AreOf-some sig [] (t ∷ ts) i s a e = absurd a
AreOf-some sig (v ∷ vs) (t ∷ ts) zero s a e = (v, refl)
AreOf-some sig (v ∷ vs) (t ∷ ts) (suc i) s a e = AreOf-some sig vs ts i s a.1 e
