-- A well-sorted term without quantifiers has a value, where its operators, predicates and definitions give one.
use Rattle.std.proofs.Common.{◌≡◌, ◌⊎◌, ℕ, Bool, true, false, ◌&&◌, List, [], ◌∷◌, map, Some, inl, inr, refl, sym, ap, ◌∙◌, subst}
use Rattle.std.specs.List.{AllByRecursion, list_all}
use Rattle.std.proofs.lemmas.Bool.{false≢true}
use Rattle.std.proofs.lemmas.Option.{none-some, same_Some}
use Rattle.chc_sorts.specs.declared.sort.Sort.{Sort}
use Rattle.chc_sorts.specs.declared.sort.Sort.TheVariants as sort
use Rattle.chc_sorts.specs.declared.op.Op.{Op}
use Rattle.chc_sorts.specs.declared.op.Op.TheVariants as op
use Rattle.chc_values.specs.declared.value.Value.{Value}
use Rattle.chc_values.specs.declared.value.Value.TheVariants as value
use Rattle.chc_values.specs.declared.world.WorldEntry.{WorldEntry}
use Rattle.chc_values.specs.Values.{IsOf, AreOf}
use Rattle.chc_values.proofs.ValueSorts.{truth_value}
use Rattle.chc_terms.specs.declared.term.Term.{Term}
use Rattle.chc_terms.specs.Has.{Meaning, Has, EachHas, AllHave, SomeHas, ChoiceHas, AppHas, Applies}
use Rattle.chc_sorts.specs.Sorts.{same_sort}
use Rattle.chc_terms.specs.Sorted.{Context, sort_of, sorts_of, op_sort, are_truths, choice_sort, is_unquantified}
use Rattle.chc_terms.specs.Laws.{Means, AreTotal, IsTotal}
use Rattle.chc_terms.proofs.Induction.{TermCases, term_ind}
use Rattle.chc_terms.proofs.HasLaws.{Has-Var, Has-Num, Has-Lit, Has-App, Has-Pred, Has-Call}
use Rattle.chc_terms.proofs.SortLaws.{sort_of-Var, is_unquantified-App, is_unquantified-Pred, is_unquantified-Quant, is_unquantified-Call}
use Rattle.chc_terms.proofs.SameSort.{same_from_test, both_true}
use Rattle.chc_terms.proofs.SortSteps.{sorts_of_more, app_sorts, pred_sorts, call_sorts}
use Rattle.chc_terms.proofs.OperatorShapes.{OperatorsFit, OperatorsAnswer, IsStrict, when_some}
use Rattle.chc_terms.proofs.Variables.{AreOf-some}
use Rattle.chc_terms.proofs.Uniqueness.{IsSingle, term_single, terms_single}

truths_all : (sorts : List Sort) → are_truths sorts ≡ true → list_all (same_sort sort.Bool) sorts ≡ true
truths_all [] h = absurd (false≢true h)
truths_all (a ∷ []) h = absurd (false≢true h)
truths_all (a ∷ b ∷ more) h = h

-- a truth value is the one or the other of two
is_true_or_false : (b : Bool) → (b ≡ true) ⊎ (b ≡ false)
is_true_or_false true = inl refl
is_true_or_false false = inr refl

is_false_or_true : (b : Bool) → (b ≡ false) ⊎ (b ≡ true)
is_false_or_true true = inr refl
is_false_or_true false = inl refl

module _ (cx : Context) (w : List WorldEntry) (preds defs : Meaning) where
  abbrev holds : Term → List Value → Value → Type 0
  holds = Has cx.sig w preds defs

  -- whatever the sorts of the variables are, where the term has a sort
  abbrev pub Some-has : Term → Type 0
  Some-has t = is_unquantified t ≡ true → (vars : List Sort) (s : Sort) → sort_of cx t vars ≡ Some s → (env : List Value) → AreOf cx.sig env vars → (v : Value) × holds t env v

  pub all_have : (ts : List Term) → AllByRecursion Some-has ts → list_all (λ b. b) (map is_unquantified ts) ≡ true → (vars sorts : List Sort) → sorts_of cx ts vars ≡ Some sorts
      → (env : List Value) → AreOf cx.sig env vars → (vs : List Value) × EachHas holds ts env vs
  all_have [] f q vars sorts h env a = ([], tt)
  all_have (t ∷ ts) f q vars sorts h env a =
      let m = sorts_of_more cx vars t ts sorts h in
      let b = both_true (is_unquantified t) (list_all (λ b. b) (map is_unquantified ts)) q in
      let x = f.0 b.0 vars m.first m.first_of env a in
      let y = all_have ts f.1 b.1 vars m.others m.others_of env a in
      (x.0 ∷ y.0, (x.1, y.1))

  -- of truth values all are x, or some is y, where each is x or y
  all_or_some : (x y : Bool) → ((b : Bool) → (b ≡ x) ⊎ (b ≡ y)) → (ts : List Term) (us : List Value) (sorts : List Sort) → list_all (same_sort sort.Bool) sorts ≡ true
      → AreOf cx.sig us sorts → (env : List Value) → EachHas holds ts env us → AllHave holds ts env (value.Bool x) ⊎ SomeHas holds ts env (value.Bool y)
  all_or_some x y e [] us sorts h a env p = inl tt
  all_or_some x y e (t ∷ ts) [] sorts h a env p = absurd p
  all_or_some x y e (t ∷ ts) (u ∷ us) [] h a env p = absurd a
  all_or_some x y e (t ∷ ts) (u ∷ us) (s ∷ sorts) h a env p =
      let b = both_true (same_sort sort.Bool s) (list_all (same_sort sort.Bool) sorts) h in
      let c = truth_value cx.sig u (subst (IsOf cx.sig u) (sym (same_from_test sort.Bool s b.0)) a.0) in
      at c.0 (subst (holds t env) c.1 p.0) (e c.0) (all_or_some x y e ts us sorts b.1 a.1 env p.1)
    where
      at : (b : Bool) → holds t env (value.Bool b) → (b ≡ x) ⊎ (b ≡ y) → AllHave holds ts env (value.Bool x) ⊎ SomeHas holds ts env (value.Bool y)
          → AllHave holds (t ∷ ts) env (value.Bool x) ⊎ SomeHas holds (t ∷ ts) env (value.Bool y)
      at b k (inl g) (inl r) = inl (subst (λ z. holds t env (value.Bool z)) g k, r)
      at b k (inl g) (inr r) = inr (inr r)
      at b k (inr g) r = inr (inl (subst (λ z. holds t env (value.Bool z)) g k))

  module _ (fit : OperatorsFit cx.sig w) (answer : OperatorsAnswer cx.sig w) (means : Means cx preds defs) (total : AreTotal cx preds defs) where
    values_of : (ts : List Term) (vars sorts : List Sort) → sorts_of cx ts vars ≡ Some sorts → (env : List Value) → AreOf cx.sig env vars → (vs : List Value) → EachHas holds ts env vs → AreOf cx.sig vs sorts
    values_of ts vars sorts h env a vs p = (terms_single cx w preds defs fit means ts vars sorts h env a).of vs p

    strict : (o : Op) → IsStrict o → (ts : List Term) → AllByRecursion Some-has ts → list_all (λ b. b) (map is_unquantified ts) ≡ true → (vars sorts : List Sort) (s : Sort)
        → sorts_of cx ts vars ≡ Some sorts → op_sort cx.sig o sorts ≡ Some s → (env : List Value) → AreOf cx.sig env vars
        → (v : Value) × (vs : List Value) × EachHas holds ts env vs × Applies cx.sig w o vs v
    strict o i ts f q vars sorts s h r env a =
        let l = all_have ts f q vars sorts h env a in
        let v = answer o i sorts s r l.0 (values_of ts vars sorts h env a l.0 l.1) in
        (v.0, l.0, l.1, v.1)

    -- `And` and `Or`
    gathered : (x y : Bool) → ((b : Bool) → (b ≡ x) ⊎ (b ≡ y)) → (ts : List Term) → AllByRecursion Some-has ts → list_all (λ b. b) (map is_unquantified ts) ≡ true → (vars sorts : List Sort)
        → sorts_of cx ts vars ≡ Some sorts → are_truths sorts ≡ true → (env : List Value) → AreOf cx.sig env vars
        → (v : Value) × (((v ≡ value.Bool x) × AllHave holds ts env (value.Bool x)) ⊎ ((v ≡ value.Bool y) × SomeHas holds ts env (value.Bool y)))
    gathered x y e ts f q vars sorts h r env a =
        let l = all_have ts f q vars sorts h env a in
        at (all_or_some x y e ts l.0 sorts (truths_all sorts r) (values_of ts vars sorts h env a l.0 l.1) env l.1)
      where
        at : AllHave holds ts env (value.Bool x) ⊎ SomeHas holds ts env (value.Bool y)
            → (v : Value) × (((v ≡ value.Bool x) × AllHave holds ts env (value.Bool x)) ⊎ ((v ≡ value.Bool y) × SomeHas holds ts env (value.Bool y)))
        at (inl p) = (value.Bool x, inl (refl, p))
        at (inr p) = (value.Bool y, inr (refl, p))

    chosen : (c t e : Term) (env : List Value) → (u : Value) × holds c env u → IsSingle cx.sig (holds c env) sort.Bool → (v : Value) × holds t env v → (v : Value) × holds e env v
        → (v : Value) × ChoiceHas holds (c ∷ t ∷ e ∷ []) env v
    chosen c t e env u x p q = let b = truth_value cx.sig u.0 (x.of u.0 u.1) in at b.0 (subst (holds c env) b.1 u.1)
      where
        at : (b : Bool) → holds c env (value.Bool b) → (v : Value) × ChoiceHas holds (c ∷ t ∷ e ∷ []) env v
        at true k = (p.0, inl (k, p.1))
        at false k = (q.0, inr (k, q.1))

    -- the sorts of as many terms
    choice : (ts : List Term) → AllByRecursion Some-has ts → list_all (λ b. b) (map is_unquantified ts) ≡ true → (vars sorts : List Sort) (s : Sort) → sorts_of cx ts vars ≡ Some sorts
        → choice_sort sorts ≡ Some s → (env : List Value) → AreOf cx.sig env vars → (v : Value) × ChoiceHas holds ts env v
    choice [] f q vars sorts s h r env a = absurd (none-some s (ap choice_sort (same_Some [] sorts h) ∙ r))
    choice (c ∷ []) f q vars sorts s h r env a =
        let m = sorts_of_more cx vars c [] sorts h in
        absurd (none-some s (sym (ap choice_sort (m.sorts_are ∙ ap (λ ss. m.first ∷ ss) (sym (same_Some [] m.others m.others_of)))) ∙ r))
    choice (c ∷ t ∷ []) f q vars sorts s h r env a =
        let m = sorts_of_more cx vars c (t ∷ []) sorts h in
        let n = sorts_of_more cx vars t [] m.others m.others_of in
        absurd (none-some s (sym (ap choice_sort (m.sorts_are ∙ ap (λ ss. m.first ∷ ss) (n.sorts_are ∙ ap (λ ss. n.first ∷ ss) (sym (same_Some [] n.others n.others_of))))) ∙ r))
    choice (c ∷ t ∷ e ∷ []) f q vars sorts s h r env a =
        let m = sorts_of_more cx vars c (t ∷ e ∷ []) sorts h in
        let n = sorts_of_more cx vars t (e ∷ []) m.others m.others_of in
        let o = sorts_of_more cx vars e [] n.others n.others_of in
        let all : sorts ≡ m.first ∷ n.first ∷ o.first ∷ [] = m.sorts_are ∙ ap (λ ss. m.first ∷ ss) (n.sorts_are ∙ ap (λ ss. n.first ∷ ss) (o.sorts_are ∙ ap (λ ss. o.first ∷ ss) (sym (same_Some [] o.others o.others_of)))) in
        let k = when_some (same_sort m.first sort.Bool && same_sort n.first o.first) n.first s (sym (ap choice_sort all) ∙ r) in
        let b = both_true (same_sort m.first sort.Bool) (same_sort n.first o.first) k.0 in
        let u = both_true (is_unquantified c) (list_all (λ b. b) (map is_unquantified (t ∷ e ∷ []))) q in
        let v = both_true (is_unquantified t) (list_all (λ b. b) (map is_unquantified (e ∷ []))) u.1 in
        let x = both_true (is_unquantified e) true v.1 in
        chosen c t e env (f.0 u.0 vars m.first m.first_of env a)
        (subst (IsSingle cx.sig (holds c env)) (same_from_test m.first sort.Bool b.0) (term_single cx w preds defs fit means c vars m.first m.first_of env a))
        (f.1.0 v.0 vars n.first n.first_of env a) (f.1.1.0 x.0 vars o.first o.first_of env a)
    choice (c ∷ t ∷ e ∷ d ∷ more) f q vars sorts s h r env a =
        let m = sorts_of_more cx vars c (t ∷ e ∷ d ∷ more) sorts h in
        let n = sorts_of_more cx vars t (e ∷ d ∷ more) m.others m.others_of in
        let o = sorts_of_more cx vars e (d ∷ more) n.others n.others_of in
        let l = sorts_of_more cx vars d more o.others o.others_of in
        absurd (none-some s (sym (ap choice_sort (m.sorts_are ∙ ap (λ ss. m.first ∷ ss) (n.sorts_are ∙ ap (λ ss. n.first ∷ ss) (o.sorts_are ∙ ap (λ ss. o.first ∷ ss) l.sorts_are)))) ∙ r))

    applied : (o : Op) (ts : List Term) → AllByRecursion Some-has ts → list_all (λ b. b) (map is_unquantified ts) ≡ true → (vars sorts : List Sort) (s : Sort) → sorts_of cx ts vars ≡ Some sorts
        → op_sort cx.sig o sorts ≡ Some s → (env : List Value) → AreOf cx.sig env vars → (v : Value) × AppHas holds cx.sig w o ts env v
    applied op.And ts f q vars sorts s h r env a = gathered true false is_true_or_false ts f q vars sorts h (when_some (are_truths sorts) sort.Bool s r).0 env a
    applied op.Or ts f q vars sorts s h r env a = gathered false true is_false_or_true ts f q vars sorts h (when_some (are_truths sorts) sort.Bool s r).0 env a
    applied op.Ite ts f q vars sorts s h r env a = choice ts f q vars sorts s h r env a
    applied o ts f q vars sorts s h r env a = let x = strict o tt ts f q vars sorts s h r env a in (x.0, (x.1, x.2, x.3))

    -- a predicate or a definition on its arguments' values
    named : (m : Meaning) (k : ℕ) (params : List Sort) → IsTotal cx.sig m k params → (ts : List Term) → AllByRecursion Some-has ts → list_all (λ b. b) (map is_unquantified ts) ≡ true → (vars : List Sort)
        → sorts_of cx ts vars ≡ Some params → (env : List Value) → AreOf cx.sig env vars → (v : Value) × (vs : List Value) × EachHas holds ts env vs × m k vs v
    named m k params g ts f q vars h env a =
        let l = all_have ts f q vars params h env a in
        let v = g l.0 (values_of ts vars params h env a l.0 l.1) in
        (v.0, l.0, l.1, v.1)

    -- by an equation of `Has`
    along : {P Q : Value → Type 0} → ((v : Value) → P v ≡ Q v) → (v : Value) × Q v → (v : Value) × P v
    along e h = (h.0, subst (λ A. A) (sym (e h.0)) h.1)

    cases : TermCases Some-has
    cases = record {
      of_var = λ i q vars s h env a. along (Has-Var cx.sig w preds defs i env) (AreOf-some cx.sig env vars i s a (sym (sort_of-Var cx i vars) ∙ h));
      of_num = λ n q vars s h env a. along (Has-Num cx.sig w preds defs n env) (value.Int n, refl);
      of_lit = λ b q vars s h env a. along (Has-Lit cx.sig w preds defs b env) (value.Bool b, refl);
      of_app = λ o ts f q vars s h env a.
          let g = app_sorts cx vars o ts s h in
          along (Has-App cx.sig w preds defs o ts env) (applied o ts f (sym (is_unquantified-App o ts) ∙ q) vars g.sorts s g.each g.result env a);
      of_pred = λ p ts f q vars s h env a.
          let g = pred_sorts cx vars p ts s h in
          let x = named preds p g.params (total.preds_total p g.params g.declared) ts f (sym (is_unquantified-Pred p ts) ∙ q) vars g.each env a in
          along (Has-Pred cx.sig w preds defs p ts env) (x.0, (x.1, x.2, x.3));
      of_quant = λ k sorts t f q. absurd (false≢true (sym (is_unquantified-Quant k sorts t) ∙ q));
      of_call = λ k ts f q vars s h env a.
          let g = call_sorts cx vars k ts s h in
          let x = named defs k g.definition.params (total.defs_total k g.definition g.declared) ts f (sym (is_unquantified-Call k ts) ∙ q) vars g.each env a in
          along (Has-Call cx.sig w preds defs k ts env) (x.0, (x.1, x.2, x.3));
    }

    -- every term without quantifiers has a value
    pub term_has : (t : Term) → Some-has t
    term_has = term_ind Some-has cases

    all_terms : (ts : List Term) → AllByRecursion Some-has ts
    all_terms [] = tt
    all_terms (t ∷ ts) = (term_has t, all_terms ts)

    -- and so has every list of terms
    pub terms_have : (ts : List Term) → list_all (λ b. b) (map is_unquantified ts) ≡ true → (vars sorts : List Sort) → sorts_of cx ts vars ≡ Some sorts
        → (env : List Value) → AreOf cx.sig env vars → (vs : List Value) × EachHas holds ts env vs
    terms_have ts = all_have ts (all_terms ts)
