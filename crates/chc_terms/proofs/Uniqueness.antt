-- A well-sorted term has at most one value, and it is of the term's sort.
use Rattle.std.proofs.Common.{◌≡◌, ◌⊎◌, ℕ, Bool, ◌&&◌, true, false, List, [], ◌∷◌, ◌++◌, Some, inl, inr, refl, sym, ap, ◌∙◌, subst}
use Rattle.std.specs.List.{AllByRecursion}
use Rattle.std.proofs.lemmas.Option.{same_Some}
use Rattle.chc_sorts.specs.declared.sort.Sort.{Sort}
use Rattle.chc_sorts.specs.declared.sort.Sort.TheVariants as sort
use Rattle.chc_sorts.specs.declared.op.Op.{Op}
use Rattle.chc_sorts.specs.declared.op.Op.TheVariants as op
use Rattle.chc_sorts.specs.Signature.{Signature}
use Rattle.chc_values.specs.declared.value.Value.{Value}
use Rattle.chc_values.specs.declared.value.Value.TheVariants as value
use Rattle.chc_values.specs.declared.world.WorldEntry.{WorldEntry}
use Rattle.chc_values.specs.Values.{IsOf, AreOf}
use Rattle.chc_terms.specs.declared.term.Kind.{Kind}
use Rattle.chc_terms.specs.declared.term.Kind.TheVariants as kind
use Rattle.chc_terms.specs.declared.term.Term.{Term}
use Rattle.chc_terms.specs.declared.term.Term.TheVariants.{Quant}
use Rattle.chc_terms.specs.Has.{Meaning, Has, EachHas, AllHave, SomeHas, ChoiceHas, AppHas, QuantHas, Applies}
use Rattle.chc_sorts.specs.Sorts.{same_sort}
use Rattle.chc_terms.specs.Sorted.{Context, sort_of, sorts_of, op_sort, are_truths, choice_sort}
use Rattle.chc_terms.specs.Laws.{Means, IsFunctional}
use Rattle.chc_terms.proofs.Induction.{TermCases, term_ind}
use Rattle.chc_terms.proofs.HasLaws.{Has-Var, Has-Num, Has-Lit, Has-App, Has-Pred, Has-Quant, Has-Call}
use Rattle.chc_terms.proofs.SortLaws.{sort_of-Var, sort_of-Num, sort_of-Lit}
use Rattle.chc_terms.proofs.SameSort.{same_from_test, both_true}
use Rattle.chc_terms.proofs.SortSteps.{Sorts, sorts_of_more, app_sorts, pred_sorts, call_sorts, quant_sorts}
use Rattle.chc_terms.proofs.Variables.{AreOf-append, AreOf-get}
use Rattle.chc_terms.proofs.OperatorShapes.{OperatorsFit, when_some, bool_of, int_of}

-- P holds of at most one value, and of values of the sort alone
pub record IsSingle (sig : Signature) (P : Value → Type 0) (s : Sort) : Type 0 where
  pub one : (u v : Value) → P u → P v → u ≡ v
  pub of : (v : Value) → P v → IsOf sig v s

-- likewise of a list of values and of sorts
pub record AreSingle (sig : Signature) (P : List Value → Type 0) (sorts : List Sort) : Type 0 where
  pub one : (us vs : List Value) → P us → P vs → us ≡ vs
  pub of : (vs : List Value) → P vs → AreOf sig vs sorts

different : value.Bool true ≡ value.Bool false → ⊥
different e = cc

module _ (cx : Context) (w : List WorldEntry) (preds defs : Meaning) where
  abbrev pub holds : Term → List Value → Value → Type 0
  holds = Has cx.sig w preds defs

  -- whatever the sorts of the variables are, where the term has a sort
  abbrev pub One : Term → Type 0
  One t = (vars : List Sort) (s : Sort) → sort_of cx t vars ≡ Some s → (env : List Value) → AreOf cx.sig env vars → IsSingle cx.sig (holds t env) s

  pub all_one : (ts : List Term) → AllByRecursion One ts → (vars sorts : List Sort) → sorts_of cx ts vars ≡ Some sorts → (env : List Value) → AreOf cx.sig env vars
      → AreSingle cx.sig (EachHas holds ts env) sorts
  all_one [] f vars sorts h env a = none (same_Some [] sorts h)
    where
      none : [] ≡ sorts → AreSingle cx.sig (EachHas holds [] env) sorts
      none e = record { one = no_values; of = λ vs p. subst (AreOf cx.sig vs) e (no_sorts vs p) }
        where
          no_values : (us vs : List Value) → EachHas holds [] env us → EachHas holds [] env vs → us ≡ vs
          no_values [] [] p q = refl
          no_values [] (v ∷ vs) p q = absurd q
          no_values (u ∷ us) vs p q = absurd p

          no_sorts : (vs : List Value) → EachHas holds [] env vs → AreOf cx.sig vs []
          no_sorts [] p = tt
          no_sorts (v ∷ vs) p = absurd p
  all_one (t ∷ ts) f vars sorts h env a =
      let m = sorts_of_more cx vars t ts sorts h in
      more m (f.0 vars m.first m.first_of env a) (all_one ts f.1 vars m.others m.others_of env a)
    where
      more : (m : Sorts cx t ts vars sorts) → IsSingle cx.sig (holds t env) m.first → AreSingle cx.sig (EachHas holds ts env) m.others → AreSingle cx.sig (EachHas holds (t ∷ ts) env) sorts
      more m x y = record { one = one_list; of = λ vs p. subst (AreOf cx.sig vs) (sym m.sorts_are) (of_list vs p) }
        where
          one_list : (us vs : List Value) → EachHas holds (t ∷ ts) env us → EachHas holds (t ∷ ts) env vs → us ≡ vs
          one_list [] vs p q = absurd p
          one_list (u ∷ us) [] p q = absurd q
          one_list (u ∷ us) (v ∷ vs) p q = let e = x.one u v p.0 q.0 in let g = y.one us vs p.1 q.1 in λ i. e i ∷ g i

          of_list : (vs : List Value) → EachHas holds (t ∷ ts) env vs → AreOf cx.sig vs (m.first ∷ m.others)
          of_list [] p = absurd p
          of_list (v ∷ vs) p = (x.of v p.0, y.of vs p.1)

  -- where all have u and some has v, these are one
  agree : (ts : List Term) → AllByRecursion One ts → (vars sorts : List Sort) → sorts_of cx ts vars ≡ Some sorts → (env : List Value) → AreOf cx.sig env vars
      → (u v : Value) → AllHave holds ts env u → SomeHas holds ts env v → u ≡ v
  agree [] f vars sorts h env a u v p q = absurd q
  agree (t ∷ ts) f vars sorts h env a u v p (inl q) = let m = sorts_of_more cx vars t ts sorts h in (f.0 vars m.first m.first_of env a).one u v p.0 q
  agree (t ∷ ts) f vars sorts h env a u v p (inr q) = let m = sorts_of_more cx vars t ts sorts h in agree ts f.1 vars m.others m.others_of env a u v p.1 q

  -- `And` and `Or`: x where all have x, and y where some has y
  abbrev Gathered : Bool → Bool → List Term → List Value → Value → Type 0
  Gathered x y ts env v = ((v ≡ value.Bool x) × AllHave holds ts env (value.Bool x)) ⊎ ((v ≡ value.Bool y) × SomeHas holds ts env (value.Bool y))

  gathered : (x y : Bool) → (value.Bool x ≡ value.Bool y → ⊥) → (ts : List Term) → AllByRecursion One ts → (vars sorts : List Sort) → sorts_of cx ts vars ≡ Some sorts
      → (env : List Value) → AreOf cx.sig env vars → (s : Sort) → sort.Bool ≡ s
      → IsSingle cx.sig (Gathered x y ts env) s
  gathered x y n ts f vars sorts h env a s e = record { one = one_gathered; of = of_gathered }
    where
      one_gathered : (u v : Value) → Gathered x y ts env u → Gathered x y ts env v → u ≡ v
      one_gathered u v (inl p) (inl q) = p.0 ∙ sym q.0
      one_gathered u v (inl p) (inr q) = absurd (n (agree ts f vars sorts h env a (value.Bool x) (value.Bool y) p.1 q.1))
      one_gathered u v (inr p) (inl q) = absurd (n (agree ts f vars sorts h env a (value.Bool x) (value.Bool y) q.1 p.1))
      one_gathered u v (inr p) (inr q) = p.0 ∙ sym q.0

      of_gathered : (v : Value) → Gathered x y ts env v → IsOf cx.sig v s
      of_gathered v (inl p) = bool_of cx.sig x s v e p.0
      of_gathered v (inr p) = bool_of cx.sig y s v e p.0

  -- `Ite` on three terms
  chosen : (c t e : Term) (cs ts es s : Sort) (vars : List Sort) (env : List Value) → IsSingle cx.sig (holds c env) cs → IsSingle cx.sig (holds t env) ts → IsSingle cx.sig (holds e env) es
      → ts ≡ s → es ≡ s → IsSingle cx.sig (ChoiceHas holds (c ∷ t ∷ e ∷ []) env) s
  chosen c t e cs ts es s vars env x y z p q = record { one = one_chosen; of = of_chosen }
    where
      one_chosen : (u v : Value) → ChoiceHas holds (c ∷ t ∷ e ∷ []) env u → ChoiceHas holds (c ∷ t ∷ e ∷ []) env v → u ≡ v
      one_chosen u v (inl g) (inl h) = y.one u v g.1 h.1
      one_chosen u v (inl g) (inr h) = absurd (different (x.one (value.Bool true) (value.Bool false) g.0 h.0))
      one_chosen u v (inr g) (inl h) = absurd (different (x.one (value.Bool true) (value.Bool false) h.0 g.0))
      one_chosen u v (inr g) (inr h) = z.one u v g.1 h.1

      of_chosen : (v : Value) → ChoiceHas holds (c ∷ t ∷ e ∷ []) env v → IsOf cx.sig v s
      of_chosen v (inl g) = subst (IsOf cx.sig v) p (y.of v g.1)
      of_chosen v (inr g) = subst (IsOf cx.sig v) q (z.of v g.1)

  -- no choice
  unchosen : (ts : List Term) (env : List Value) (s : Sort) → ((v : Value) → ChoiceHas holds ts env v → ⊥) → IsSingle cx.sig (ChoiceHas holds ts env) s
  unchosen ts env s n = record { one = λ u v p q. absurd (n u p); of = λ v p. absurd (n v p) }

  choice : (ts : List Term) → AllByRecursion One ts → (vars sorts : List Sort) (s : Sort) → sorts_of cx ts vars ≡ Some sorts → choice_sort sorts ≡ Some s
      → (env : List Value) → AreOf cx.sig env vars → IsSingle cx.sig (ChoiceHas holds ts env) s
  choice [] f vars sorts s h r env a = unchosen [] env s (λ v p. p)
  choice (c ∷ []) f vars sorts s h r env a = unchosen (c ∷ []) env s (λ v p. p)
  choice (c ∷ t ∷ []) f vars sorts s h r env a = unchosen (c ∷ t ∷ []) env s (λ v p. p)
  choice (c ∷ t ∷ e ∷ []) f vars sorts s h r env a =
      let m = sorts_of_more cx vars c (t ∷ e ∷ []) sorts h in
      let n = sorts_of_more cx vars t (e ∷ []) m.others m.others_of in
      let o = sorts_of_more cx vars e [] n.others n.others_of in
      let all : sorts ≡ m.first ∷ n.first ∷ o.first ∷ [] = m.sorts_are ∙ ap (λ ss. m.first ∷ ss) (n.sorts_are ∙ ap (λ ss. n.first ∷ ss) (o.sorts_are ∙ ap (λ ss. o.first ∷ ss) (sym (same_Some [] o.others o.others_of)))) in
      let k = when_some (same_sort m.first sort.Bool && same_sort n.first o.first) n.first s (sym (ap choice_sort all) ∙ r) in
      let b = both_true (same_sort m.first sort.Bool) (same_sort n.first o.first) k.0 in
      chosen c t e m.first n.first o.first s vars env (f.0 vars m.first m.first_of env a) (f.1.0 vars n.first n.first_of env a) (f.1.1.0 vars o.first o.first_of env a)
      k.1 (sym (same_from_test n.first o.first b.1) ∙ k.1)
  choice (c ∷ t ∷ e ∷ d ∷ more) f vars sorts s h r env a = unchosen (c ∷ t ∷ e ∷ d ∷ more) env s (λ v p. p)

  module _ (fit : OperatorsFit cx.sig w) (means : Means cx preds defs) where
    strict : (o : Op) (ts : List Term) → AllByRecursion One ts → (vars sorts : List Sort) (s : Sort) → sorts_of cx ts vars ≡ Some sorts → op_sort cx.sig o sorts ≡ Some s
        → (env : List Value) → AreOf cx.sig env vars → IsSingle cx.sig (λ v. (vs : List Value) × EachHas holds ts env vs × Applies cx.sig w o vs v) s
    strict o ts f vars sorts s h r env a =
        let l = all_one ts f vars sorts h env a in
        record {
          one = λ u v p q. (fit o).one sorts s r q.0 (l.of q.0 q.1) u v (subst (λ vs. Applies cx.sig w o vs u) (l.one p.0 q.0 p.1 q.1) p.2) q.2;
          of = λ v p. (fit o).of sorts s r p.0 (l.of p.0 p.1) v p.2;
        }

    applied : (o : Op) (ts : List Term) → AllByRecursion One ts → (vars sorts : List Sort) (s : Sort) → sorts_of cx ts vars ≡ Some sorts → op_sort cx.sig o sorts ≡ Some s
        → (env : List Value) → AreOf cx.sig env vars → IsSingle cx.sig (AppHas holds cx.sig w o ts env) s
    applied op.And ts f vars sorts s h r env a = gathered true false different ts f vars sorts h env a s (when_some (are_truths sorts) sort.Bool s r).1
    applied op.Or ts f vars sorts s h r env a = gathered false true (λ e. different (sym e)) ts f vars sorts h env a s (when_some (are_truths sorts) sort.Bool s r).1
    applied op.Ite ts f vars sorts s h r env a = choice ts f vars sorts s h r env a
    applied o ts f vars sorts s h r env a = strict o ts f vars sorts s h r env a

    -- a predicate or a definition on its arguments' values
    named : (m : Meaning) (k : ℕ) (params : List Sort) (s : Sort) → IsFunctional cx.sig m k params s → (ts : List Term) → AllByRecursion One ts → (vars : List Sort)
        → sorts_of cx ts vars ≡ Some params → (env : List Value) → AreOf cx.sig env vars → IsSingle cx.sig (λ v. (vs : List Value) × EachHas holds ts env vs × m k vs v) s
    named m k params s g ts f vars h env a =
        let l = all_one ts f vars params h env a in
        record {
          one = λ u v p q. g.one q.0 (l.of q.0 q.1) u v (subst (λ vs. m k vs u) (l.one p.0 q.0 p.1 q.1) p.2) q.2;
          of = λ v p. g.of p.0 (l.of p.0 p.1) v p.2;
        }

    -- a quantifier over a body with at most one value
    bound : (k : Kind) (sorts : List Sort) (t : Term) → One t → (vars : List Sort) (s : Sort) → sort_of cx (Quant k sorts t) vars ≡ Some s → (env : List Value) → AreOf cx.sig env vars
        → IsSingle cx.sig (QuantHas holds cx.sig k sorts t env) s
    bound k sorts t f vars s h env a = at k
      where
        typed : (sort_of cx t (vars ++ sorts) ≡ Some sort.Bool) × (sort.Bool ≡ s)
        typed = quant_sorts cx vars k sorts t s h

        clash : (us : List Value) → AreOf cx.sig us sorts → holds t (env ++ us) (value.Bool true) → holds t (env ++ us) (value.Bool false) → ⊥
        clash us b p q = different ((f (vars ++ sorts) sort.Bool typed.0 (env ++ us) (AreOf-append cx.sig env us vars sorts a b)).one (value.Bool true) (value.Bool false) p q)

        forall_one : (u v : Value) → QuantHas holds cx.sig kind.Forall sorts t env u → QuantHas holds cx.sig kind.Forall sorts t env v → u ≡ v
        forall_one u v (inl p) (inl q) = p.0 ∙ sym q.0
        forall_one u v (inl p) (inr q) = absurd (clash q.1 q.2 (p.1 q.1 q.2) q.3)
        forall_one u v (inr p) (inl q) = absurd (clash p.1 p.2 (q.1 p.1 p.2) p.3)
        forall_one u v (inr p) (inr q) = p.0 ∙ sym q.0

        forall_of : (v : Value) → QuantHas holds cx.sig kind.Forall sorts t env v → IsOf cx.sig v s
        forall_of v (inl p) = bool_of cx.sig true s v typed.1 p.0
        forall_of v (inr p) = bool_of cx.sig false s v typed.1 p.0

        exists_one : (u v : Value) → QuantHas holds cx.sig kind.Exists sorts t env u → QuantHas holds cx.sig kind.Exists sorts t env v → u ≡ v
        exists_one u v (inl p) (inl q) = p.0 ∙ sym q.0
        exists_one u v (inl p) (inr q) = absurd (clash p.1 p.2 p.3 (q.1 p.1 p.2))
        exists_one u v (inr p) (inl q) = absurd (clash q.1 q.2 q.3 (p.1 q.1 q.2))
        exists_one u v (inr p) (inr q) = p.0 ∙ sym q.0

        exists_of : (v : Value) → QuantHas holds cx.sig kind.Exists sorts t env v → IsOf cx.sig v s
        exists_of v (inl p) = bool_of cx.sig true s v typed.1 p.0
        exists_of v (inr p) = bool_of cx.sig false s v typed.1 p.0

        at : (q : Kind) → IsSingle cx.sig (QuantHas holds cx.sig q sorts t env) s
        at kind.Forall = record { one = forall_one; of = forall_of }
        at kind.Exists = record { one = exists_one; of = exists_of }

    -- by an equation of `Has`
    along : {P Q : Value → Type 0} {s : Sort} → ((v : Value) → P v ≡ Q v) → IsSingle cx.sig Q s → IsSingle cx.sig P s
    along e h = record {
      one = λ u v p q. h.one u v (subst (λ A. A) (e u) p) (subst (λ A. A) (e v) q);
      of = λ v p. h.of v (subst (λ A. A) (e v) p);
    }

    cases : TermCases One
    cases = record {
      of_var = λ i vars s h env a. along (Has-Var cx.sig w preds defs i env) (record {
        one = λ u v p q. same_Some u v (sym p ∙ q);
        of = λ v p. AreOf-get cx.sig env vars i v s a p (sym (sort_of-Var cx i vars) ∙ h);
      });
      of_num = λ n vars s h env a. along (Has-Num cx.sig w preds defs n env) (record {
        one = λ u v p q. p ∙ sym q;
        of = λ v p. int_of cx.sig n s v (same_Some sort.Int s (sym (sort_of-Num cx n vars) ∙ h)) p;
      });
      of_lit = λ b vars s h env a. along (Has-Lit cx.sig w preds defs b env) (record {
        one = λ u v p q. p ∙ sym q;
        of = λ v p. bool_of cx.sig b s v (same_Some sort.Bool s (sym (sort_of-Lit cx b vars) ∙ h)) p;
      });
      of_app = λ o ts f vars s h env a.
          let g = app_sorts cx vars o ts s h in along (Has-App cx.sig w preds defs o ts env) (applied o ts f vars g.sorts s g.each g.result env a);
      of_pred = λ p ts f vars s h env a.
          let g = pred_sorts cx vars p ts s h in
          along (Has-Pred cx.sig w preds defs p ts env) (subst (IsSingle cx.sig (λ v. (vs : List Value) × EachHas holds ts env vs × preds p vs v)) g.result
          (named preds p g.params sort.Bool (means.preds_fit p g.params g.declared) ts f vars g.each env a));
      of_quant = λ k sorts t f vars s h env a. along (Has-Quant cx.sig w preds defs k sorts t env) (bound k sorts t f vars s h env a);
      of_call = λ k ts f vars s h env a.
          let g = call_sorts cx vars k ts s h in
          along (Has-Call cx.sig w preds defs k ts env) (subst (IsSingle cx.sig (λ v. (vs : List Value) × EachHas holds ts env vs × defs k vs v)) g.result
          (named defs k g.definition.params g.definition.result (means.defs_fit k g.definition g.declared) ts f vars g.each env a));
    }

    -- every term has at most one value, where its operators give at most one
    pub term_single : (t : Term) → One t
    term_single = term_ind One cases

    all_single : (ts : List Term) → AllByRecursion One ts
    all_single [] = tt
    all_single (t ∷ ts) = (term_single t, all_single ts)

    -- and so does every list of terms
    pub terms_single : (ts : List Term) (vars sorts : List Sort) → sorts_of cx ts vars ≡ Some sorts → (env : List Value) → AreOf cx.sig env vars → AreSingle cx.sig (EachHas holds ts env) sorts
    terms_single ts = all_one ts (all_single ts)
