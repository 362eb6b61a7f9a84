-- The laws of Not, Eq and the operators on integers.
use Rattle.std.proofs.Common.{◌≡◌, ◌≢◌, ◌⊎◌, ℤ, pos, ◌+ℤ◌, ◌-ℤ◌, ◌*ℤ◌, ◌≤ℤ◌, ◌<ℤ◌, not, List, [], ◌∷◌, Some, inl, inr, refl, sym, ap, ◌∙◌, subst, arith}
use Rattle.std.proofs.lemmas.Int.{ints, by_lt_z}
use Rattle.std.proofs.lemmas.Option.{none-some}
use Rattle.std.proofs.Math.IntN.{ℤ_discrete}
use Rattle.chc_sorts.specs.declared.sort.Sort.{Sort}
use Rattle.chc_sorts.specs.declared.sort.Sort.TheVariants as sort
use Rattle.chc_sorts.specs.declared.op.Op.TheVariants as op
use Rattle.chc_sorts.specs.Signature.{Signature}
use Rattle.chc_values.specs.declared.value.Value.{Value}
use Rattle.chc_values.specs.declared.value.Value.TheVariants as value
use Rattle.chc_values.specs.declared.world.WorldEntry.{WorldEntry}
use Rattle.chc_values.specs.Worlds.{DividesByZero, LeavesByZero, KeysOnce}
use Rattle.chc_values.proofs.Equality.{value_decided}
use Rattle.chc_values.proofs.Lookups.{one_quotient_by_zero, some_quotient_by_zero, one_rest_by_zero, some_rest_by_zero}
use Rattle.chc_terms.specs.Has.{Applies, Divides}
use Rattle.chc_sorts.specs.Sorts.{same_sorts, same_sort}
use Rattle.chc_terms.specs.Sorted.{equation_sort}
use Rattle.chc_terms.proofs.Division.{one_division, some_division}
use Rattle.chc_terms.proofs.OperatorShapes.{OperatorFits, OperatorAnswers, when_some, same_truth, truth_of, bool_of, int_of, AreOf-two, two_integers, one_truth}

le_decided : (a b : ℤ) → Dec (a ≤ℤ b)
le_decided a b = by_lt_z b a (λ h. no (λ g. omega (arith, ints))) (λ h. yes h)

lt_decided : (a b : ℤ) → Dec (a <ℤ b)
lt_decided a b = by_lt_z a b (λ h. yes h) (λ h. no (λ g. omega (arith, ints)))

-- the quotient, by zero or not
abbrev Quotient : List WorldEntry → ℤ → ℤ → ℤ → Type 0
Quotient w a b q = ((b ≢ pos 0) × (r : ℤ) × Divides a b q r) ⊎ ((b ≡ pos 0) × DividesByZero w a q)

abbrev Rest : List WorldEntry → ℤ → ℤ → ℤ → Type 0
Rest w a b r = ((b ≢ pos 0) × (q : ℤ) × Divides a b q r) ⊎ ((b ≡ pos 0) × LeavesByZero w a r)

one_quotient : (w : List WorldEntry) → KeysOnce w → (a b q p : ℤ) → Quotient w a b q → Quotient w a b p → q ≡ p
one_quotient w k a b q p (inl x) (inl y) = (one_division a b q x.1 p y.1 x.2 y.2).0
one_quotient w k a b q p (inl x) (inr y) = absurd (x.0 y.0)
one_quotient w k a b q p (inr x) (inl y) = absurd (y.0 x.0)
one_quotient w k a b q p (inr x) (inr y) = one_quotient_by_zero w a q p k x.1 y.1

one_rest : (w : List WorldEntry) → KeysOnce w → (a b r s : ℤ) → Rest w a b r → Rest w a b s → r ≡ s
one_rest w k a b r s (inl x) (inl y) = (one_division a b x.1 r y.1 s x.2 y.2).1
one_rest w k a b r s (inl x) (inr y) = absurd (x.0 y.0)
one_rest w k a b r s (inr x) (inl y) = absurd (y.0 x.0)
one_rest w k a b r s (inr x) (inr y) = one_rest_by_zero w a r s k x.1 y.1

some_quotient : (w : List WorldEntry) (a b : ℤ) → Dec (b ≡ pos 0) → (q : ℤ) × Quotient w a b q
some_quotient w a b (yes p) = let z = some_quotient_by_zero w a in (z.0, inr (p, z.1))
some_quotient w a b (no n) = let d = some_division a b n in (d.quotient, inl (n, d.rest, d.divides))

some_rest : (w : List WorldEntry) (a b : ℤ) → Dec (b ≡ pos 0) → (r : ℤ) × Rest w a b r
some_rest w a b (yes p) = let z = some_rest_by_zero w a in (z.0, inr (p, z.1))
some_rest w a b (no n) = let d = some_division a b n in (d.rest, inl (n, d.quotient, d.divides))

-- two integers in a row that are two others
same_pair : (a b c d : ℤ) (vs : List Value) → vs ≡ value.Int a ∷ value.Int b ∷ [] → vs ≡ value.Int c ∷ value.Int d ∷ [] → (a ≡ c) × (b ≡ d)
same_pair a b c d vs e f = (cc, cc)

same_two : (a b c d : Value) (vs : List Value) → vs ≡ a ∷ b ∷ [] → vs ≡ c ∷ d ∷ [] → (a ≡ c) × (b ≡ d)
same_two a b c d vs e f = (cc, cc)

module _ (sig : Signature) (w : List WorldEntry) where
  pub not_fits : OperatorFits sig w op.Not
  not_fits = record {
    one = λ sorts s h vs a u v x y. cc;
    of = λ sorts s h vs a v x. bool_of sig (not x.0) s v (when_some (same_sorts sorts (sort.Bool ∷ [])) sort.Bool s h).1 x.2;
  }

  pub not_answers : OperatorAnswers sig w op.Not
  not_answers sorts s h vs a = let t = one_truth sig sorts sort.Bool s h vs a in (value.Bool (not t.0), (t.0, t.1, refl))

  equation_fits : (sorts : List Sort) (s : Sort) → equation_sort sorts ≡ Some s → sort.Bool ≡ s
  equation_fits [] s h = absurd (none-some s h)
  equation_fits (a ∷ []) s h = absurd (none-some s h)
  equation_fits (a ∷ b ∷ []) s h = (when_some (same_sort a b) sort.Bool s h).1
  equation_fits (a ∷ b ∷ c ∷ more) s h = absurd (none-some s h)

  one_equation : (vs : List Value) (u v : Value) → Applies sig w op.Eq vs u → Applies sig w op.Eq vs v → u ≡ v
  one_equation vs u v x y =
      let e = same_two x.0 x.1 y.0 y.1 vs x.3 y.3 in
      let r = same_truth x.2 y.2 x.5 y.5 (λ p. sym e.0 ∙ p ∙ e.1) (λ p. e.0 ∙ p ∙ sym e.1) in
      x.4 ∙ ap value.Bool r ∙ sym y.4

  pub eq_fits : OperatorFits sig w op.Eq
  eq_fits = record {
    one = λ sorts s h vs a u v x y. one_equation vs u v x y;
    of = λ sorts s h vs a v x. bool_of sig x.2 s v (equation_fits sorts s h) x.4;
  }

  pub eq_answers : OperatorAnswers sig w op.Eq
  eq_answers [] s h vs a = absurd (none-some s h)
  eq_answers (p ∷ []) s h vs a = absurd (none-some s h)
  eq_answers (p ∷ q ∷ []) s h vs a =
      let t = AreOf-two sig vs p q a in let r = truth_of (value_decided t.0 t.1) in
      (value.Bool r.0, (t.0, t.1, r.0, t.2, refl, r.1))
  eq_answers (p ∷ q ∷ r ∷ more) s h vs a = absurd (none-some s h)

  pub add_fits : OperatorFits sig w op.Add
  add_fits = record {
    one = λ sorts s h vs a u v x y. let e = same_pair x.0 x.1 y.0 y.1 vs x.2 y.2 in x.3 ∙ (λ i. value.Int (e.0 i +ℤ e.1 i)) ∙ sym y.3;
    of = λ sorts s h vs a v x. int_of sig (x.0 +ℤ x.1) s v (when_some (same_sorts sorts (sort.Int ∷ sort.Int ∷ [])) sort.Int s h).1 x.3;
  }

  pub add_answers : OperatorAnswers sig w op.Add
  add_answers sorts s h vs a = let t = two_integers sig sorts sort.Int s h vs a in (value.Int (t.0 +ℤ t.1), (t.0, t.1, t.2, refl))

  pub sub_fits : OperatorFits sig w op.Sub
  sub_fits = record {
    one = λ sorts s h vs a u v x y. let e = same_pair x.0 x.1 y.0 y.1 vs x.2 y.2 in x.3 ∙ (λ i. value.Int (e.0 i -ℤ e.1 i)) ∙ sym y.3;
    of = λ sorts s h vs a v x. int_of sig (x.0 -ℤ x.1) s v (when_some (same_sorts sorts (sort.Int ∷ sort.Int ∷ [])) sort.Int s h).1 x.3;
  }

  pub sub_answers : OperatorAnswers sig w op.Sub
  sub_answers sorts s h vs a = let t = two_integers sig sorts sort.Int s h vs a in (value.Int (t.0 -ℤ t.1), (t.0, t.1, t.2, refl))

  pub mul_fits : OperatorFits sig w op.Mul
  mul_fits = record {
    one = λ sorts s h vs a u v x y. let e = same_pair x.0 x.1 y.0 y.1 vs x.2 y.2 in x.3 ∙ (λ i. value.Int (e.0 i *ℤ e.1 i)) ∙ sym y.3;
    of = λ sorts s h vs a v x. int_of sig (x.0 *ℤ x.1) s v (when_some (same_sorts sorts (sort.Int ∷ sort.Int ∷ [])) sort.Int s h).1 x.3;
  }

  pub mul_answers : OperatorAnswers sig w op.Mul
  mul_answers sorts s h vs a = let t = two_integers sig sorts sort.Int s h vs a in (value.Int (t.0 *ℤ t.1), (t.0, t.1, t.2, refl))

  one_div : KeysOnce w → (vs : List Value) (u v : Value) → Applies sig w op.Div vs u → Applies sig w op.Div vs v → u ≡ v
  one_div k vs u v x y =
      let e = same_pair x.0 x.1 y.0 y.1 vs x.3 y.3 in
      let q = one_quotient w k y.0 y.1 x.2 y.2 (subst (λ (p : ℤ × ℤ). Quotient w p.0 p.1 x.2) (λ i. (e.0 i, e.1 i)) x.5) y.5 in
      x.4 ∙ ap value.Int q ∙ sym y.4

  pub div_fits : KeysOnce w → OperatorFits sig w op.Div
  div_fits k = record {
    one = λ sorts s h vs a u v x y. one_div k vs u v x y;
    of = λ sorts s h vs a v x. int_of sig x.2 s v (when_some (same_sorts sorts (sort.Int ∷ sort.Int ∷ [])) sort.Int s h).1 x.4;
  }

  pub div_answers : OperatorAnswers sig w op.Div
  div_answers sorts s h vs a =
      let t = two_integers sig sorts sort.Int s h vs a in let q = some_quotient w t.0 t.1 (ℤ_discrete t.1 (pos 0)) in
      (value.Int q.0, (t.0, t.1, q.0, t.2, refl, q.1))

  one_mod : KeysOnce w → (vs : List Value) (u v : Value) → Applies sig w op.Mod vs u → Applies sig w op.Mod vs v → u ≡ v
  one_mod k vs u v x y =
      let e = same_pair x.0 x.1 y.0 y.1 vs x.3 y.3 in
      let q = one_rest w k y.0 y.1 x.2 y.2 (subst (λ (p : ℤ × ℤ). Rest w p.0 p.1 x.2) (λ i. (e.0 i, e.1 i)) x.5) y.5 in
      x.4 ∙ ap value.Int q ∙ sym y.4

  pub mod_fits : KeysOnce w → OperatorFits sig w op.Mod
  mod_fits k = record {
    one = λ sorts s h vs a u v x y. one_mod k vs u v x y;
    of = λ sorts s h vs a v x. int_of sig x.2 s v (when_some (same_sorts sorts (sort.Int ∷ sort.Int ∷ [])) sort.Int s h).1 x.4;
  }

  pub mod_answers : OperatorAnswers sig w op.Mod
  mod_answers sorts s h vs a =
      let t = two_integers sig sorts sort.Int s h vs a in let q = some_rest w t.0 t.1 (ℤ_discrete t.1 (pos 0)) in
      (value.Int q.0, (t.0, t.1, q.0, t.2, refl, q.1))

  one_le : (vs : List Value) (u v : Value) → Applies sig w op.Le vs u → Applies sig w op.Le vs v → u ≡ v
  one_le vs u v x y =
      let e = same_pair x.0 x.1 y.0 y.1 vs x.3 y.3 in
      let r = same_truth x.2 y.2 x.5 y.5 (subst (λ (p : ℤ × ℤ). p.0 ≤ℤ p.1) (λ i. (e.0 i, e.1 i))) (subst (λ (p : ℤ × ℤ). p.0 ≤ℤ p.1) (sym (λ i. (e.0 i, e.1 i)))) in
      x.4 ∙ ap value.Bool r ∙ sym y.4

  pub le_fits : OperatorFits sig w op.Le
  le_fits = record {
    one = λ sorts s h vs a u v x y. one_le vs u v x y;
    of = λ sorts s h vs a v x. bool_of sig x.2 s v (when_some (same_sorts sorts (sort.Int ∷ sort.Int ∷ [])) sort.Bool s h).1 x.4;
  }

  pub le_answers : OperatorAnswers sig w op.Le
  le_answers sorts s h vs a =
      let t = two_integers sig sorts sort.Bool s h vs a in let r = truth_of (le_decided t.0 t.1) in
      (value.Bool r.0, (t.0, t.1, r.0, t.2, refl, r.1))

  one_lt : (vs : List Value) (u v : Value) → Applies sig w op.Lt vs u → Applies sig w op.Lt vs v → u ≡ v
  one_lt vs u v x y =
      let e = same_pair x.0 x.1 y.0 y.1 vs x.3 y.3 in
      let r = same_truth x.2 y.2 x.5 y.5 (subst (λ (p : ℤ × ℤ). p.0 <ℤ p.1) (λ i. (e.0 i, e.1 i))) (subst (λ (p : ℤ × ℤ). p.0 <ℤ p.1) (sym (λ i. (e.0 i, e.1 i)))) in
      x.4 ∙ ap value.Bool r ∙ sym y.4

  pub lt_fits : OperatorFits sig w op.Lt
  lt_fits = record {
    one = λ sorts s h vs a u v x y. one_lt vs u v x y;
    of = λ sorts s h vs a v x. bool_of sig x.2 s v (when_some (same_sorts sorts (sort.Int ∷ sort.Int ∷ [])) sort.Bool s h).1 x.4;
  }

  pub lt_answers : OperatorAnswers sig w op.Lt
  lt_answers sorts s h vs a =
      let t = two_integers sig sorts sort.Bool s h vs a in let r = truth_of (lt_decided t.0 t.1) in
      (value.Bool r.0, (t.0, t.1, r.0, t.2, refl, r.1))
