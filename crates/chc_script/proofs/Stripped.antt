-- An assertion is true where its rest, behind the quantifiers in front, is for all values of their variables.
use Rattle.std.proofs.Common.{◌≡◌, inl, inr, Bool, true, false, not, cond, List, [], ◌∷◌, ◌++◌, map, refl, ap, sym, subst, ◌∙◌}
use Rattle.std.proofs.lemmas.List.{append_assoc, append-nil}
use Rattle.std.specs.List.{AllByRecursion}
use Rattle.chc_sorts.specs.declared.sort.Sort.{Sort}
use Rattle.chc_sorts.specs.declared.op.Op.{Op}
use Rattle.chc_sorts.specs.declared.op.Op.TheVariants as op
use Rattle.chc_sorts.specs.Signature.{Signature}
use Rattle.chc_values.specs.declared.value.Value.{Value}
use Rattle.chc_values.specs.declared.value.Value.TheVariants as value
use Rattle.chc_values.specs.declared.world.WorldEntry.{WorldEntry}
use Rattle.chc_values.specs.Values.{AreOf}
use Rattle.chc_terms.specs.declared.term.Kind.{Kind}
use Rattle.chc_terms.specs.declared.term.Kind.TheVariants as kind
use Rattle.chc_terms.specs.declared.term.Term.{Term}
use Rattle.chc_terms.specs.declared.term.Term.TheVariants as term
use Rattle.chc_terms.specs.Has.{Meaning, Has, EachHas}
use Rattle.chc_terms.proofs.HasLaws.{Has-App, Has-Quant}
use Rattle.chc_terms.proofs.Induction.{term_ind}
use Rattle.chc_terms.proofs.Variables.{AreOf-append}
use Rattle.chc_script.specs.Horn.{Prefix, left, binds, prefix_of, stripping, operator_stripped}
use Rattle.chc_script.specs.declared.horn.side.Side.{Side}
use Rattle.chc_script.specs.declared.horn.side.Side.TheVariants as side
use Rattle.chc_script.proofs.PrefixLaws.{prefix-Var, prefix-Num, prefix-Lit, prefix-App, prefix-Pred, prefix-Quant, prefix-Call}
use Rattle.chc_script.proofs.HornSteps.{holding, true_not_false}

-- values of variables are those of the first and of the others
pub record Split (sig : Signature) (vs : List Value) (ss ts : List Sort) : Type 0 where
  pub firsts : List Value
  pub others : List Value
  pub joined : vs ≡ firsts ++ others
  pub firsts_of : AreOf sig firsts ss
  pub others_of : AreOf sig others ts

pub AreOf-split : (sig : Signature) (vs : List Value) (ss ts : List Sort) → AreOf sig vs (ss ++ ts) → Split sig vs ss ts
AreOf-split sig vs [] ts a = record { firsts = []; others = vs; joined = refl; firsts_of = tt; others_of = a }
AreOf-split sig [] (s ∷ ss) ts a = absurd a
AreOf-split sig (v ∷ vs) (s ∷ ss) ts a =
    let rest = AreOf-split sig vs ss ts a.1 in
    record { firsts = v ∷ rest.firsts; others = rest.others; joined = ap (λ xs. v ∷ xs) rest.joined; firsts_of = (a.0, rest.firsts_of); others_of = rest.others_of }

module _ (sig : Signature) (w : List WorldEntry) (preds defs : Meaning) where
  -- the term makes true what it stands in
  abbrev pub Holds : Term → Side → List Value → Type 0
  Holds t s env = Has sig w preds defs t env (holding s)

  -- a term on a side holds where what is left of it does, for all values of the variables that were in front
  pub record Stripped (t : Term) (s : Side) (vars : List Sort) (p : Prefix) : Type 0 where
    pub more : List Sort
    pub vars_are : p.vars ≡ vars ++ more
    pub forwards : (env : List Value) → Holds t s env → (us : List Value) → AreOf sig us more → Holds p.rest p.side (env ++ us)
    pub backwards : (env : List Value) → ((us : List Value) → AreOf sig us more → Holds p.rest p.side (env ++ us)) → Holds t s env

  abbrev Strips : Term → Type 0
  Strips t = (s : Side) (vars : List Sort) → Stripped t s vars (prefix_of t s vars)

  none_left : (us : List Value) → AreOf sig us [] → us ≡ []
  none_left [] a = refl
  none_left (u ∷ us) a = absurd a

  left_stripped : (t : Term) (s : Side) (vars : List Sort) → Stripped t s vars (left t s vars)
  left_stripped t s vars = record {
    more = [];
    vars_are = sym (append-nil vars);
    forwards = λ env h us a. subst (Holds t s) (sym (ap (λ vs. env ++ vs) (none_left us a) ∙ append-nil env)) h;
    backwards = λ env h. subst (Holds t s) (append-nil env) (h [] tt);
  }

  -- quantifiers over the clause's variables
  bound : (k : Kind) (s : Side) (sorts : List Sort) (t : Term) → binds k s ≡ true → (env : List Value) → Holds (term.Quant k sorts t) s env
      → (us : List Value) → AreOf sig us sorts → Holds t s (env ++ us)
  bound kind.Forall side.Concluded sorts t b env h us a =
      elim (rw (Has-Quant sig w preds defs kind.Forall sorts t env (value.Bool true)) at h) [ inl k ↦ k.1 us a | inr k ↦ absurd (true_not_false k.0) ]
  bound kind.Exists side.Assumed sorts t b env h us a =
      elim (rw (Has-Quant sig w preds defs kind.Exists sorts t env (value.Bool false)) at h) [ inl k ↦ absurd (true_not_false (sym k.0)) | inr k ↦ k.1 us a ]
  bound kind.Forall side.Assumed sorts t b env h us a = absurd (false_true b)
    where
      false_true : false ≡ true → ⊥
      false_true e = cc
  bound kind.Exists side.Concluded sorts t b env h us a = absurd (false_true b)
    where
      false_true : false ≡ true → ⊥
      false_true e = cc

  binding : (k : Kind) (s : Side) (sorts : List Sort) (t : Term) → binds k s ≡ true → (env : List Value)
      → ((us : List Value) → AreOf sig us sorts → Holds t s (env ++ us)) → Holds (term.Quant k sorts t) s env
  binding kind.Forall side.Concluded sorts t b env h = rw (Has-Quant sig w preds defs kind.Forall sorts t env (value.Bool true)) (inl (refl, h))
  binding kind.Exists side.Assumed sorts t b env h = rw (Has-Quant sig w preds defs kind.Exists sorts t env (value.Bool false)) (inr (refl, h))
  binding kind.Forall side.Assumed sorts t b env h = absurd (false_true b)
    where
      false_true : false ≡ true → ⊥
      false_true e = cc
  binding kind.Exists side.Concluded sorts t b env h = absurd (false_true b)
    where
      false_true : false ≡ true → ⊥
      false_true e = cc

  quantifier_stripped : (k : Kind) (s : Side) (sorts : List Sort) (t : Term) (vars : List Sort) (p : Prefix) → binds k s ≡ true
      → Stripped t s (vars ++ sorts) p → Stripped (term.Quant k sorts t) s vars p
  quantifier_stripped k s sorts t vars p b h = record {
    more = sorts ++ h.more;
    vars_are = h.vars_are ∙ append_assoc vars sorts h.more;
    forwards = λ env holds us a.
        let parts = AreOf-split sig us sorts h.more a in
        let inner = h.forwards (env ++ parts.firsts) (bound k s sorts t b env holds parts.firsts parts.firsts_of) parts.others parts.others_of in
        subst (Holds p.rest p.side) (append_assoc env parts.firsts parts.others ∙ ap (λ vs. env ++ vs) (sym parts.joined)) inner;
    backwards = λ env all.
        binding k s sorts t b env
        (λ us a. h.backwards (env ++ us)
        (λ vs c. subst (Holds p.rest p.side) (sym (append_assoc env us vs)) (all (us ++ vs) (AreOf-append sig us vs sorts h.more a c))));
  }

  quant_strips : (k : Kind) (sorts : List Sort) (t : Term) → Strips t → Strips (term.Quant k sorts t)
  quant_strips k sorts t f s vars = subst (Stripped (term.Quant k sorts t) s vars) (sym (prefix-Quant s vars k sorts t)) (by_test (binds k s) refl)
    where
      by_test : (b : Bool) → binds k s ≡ b → Stripped (term.Quant k sorts t) s vars (cond b (prefix_of t s (vars ++ sorts)) (left (term.Quant k sorts t) s vars))
      by_test true e = quantifier_stripped k s sorts t vars (prefix_of t s (vars ++ sorts)) e (f s (vars ++ sorts))
      by_test false e = left_stripped (term.Quant k sorts t) s vars

  -- negations
  not_holds : (t : Term) (env : List Value) → Holds (term.App op.Not (t ∷ [])) side.Concluded env → Holds t side.Assumed env
  not_holds t env h = from_operand (rw (Has-App sig w preds defs op.Not (t ∷ []) env (value.Bool true)) at h)
    where
      of_bool : (b : Bool) (vs : List Value) → vs ≡ value.Bool b ∷ [] → EachHas (Has sig w preds defs) (t ∷ []) env vs → value.Bool true ≡ value.Bool (not b) → Holds t side.Assumed env
      of_bool true vs e k f = absurd (true_not_false f)
      of_bool false vs e k f = (subst (λ (l : List Value). EachHas (Has sig w preds defs) (t ∷ []) env l) e k).0

      from_operand : (vs : List Value) × EachHas (Has sig w preds defs) (t ∷ []) env vs × ((b : Bool) × (vs ≡ value.Bool b ∷ []) × (value.Bool true ≡ value.Bool (not b))) → Holds t side.Assumed env
      from_operand k = of_bool k.2.0 k.0 k.2.1 k.1 k.2.2

  holds_not : (t : Term) (env : List Value) → Holds t side.Assumed env → Holds (term.App op.Not (t ∷ [])) side.Concluded env
  holds_not t env h = rw (Has-App sig w preds defs op.Not (t ∷ []) env (value.Bool true)) (value.Bool false ∷ [], (h, tt), (false, refl, refl))

  negation_strips : (ts : List Term) → AllByRecursion Strips ts → (vars : List Sort)
      → Stripped (term.App op.Not ts) side.Concluded vars (operator_stripped op.Not side.Concluded (map (λ t. (t, stripping t)) ts) (term.App op.Not ts) side.Concluded vars)
  negation_strips [] f vars = left_stripped (term.App op.Not []) side.Concluded vars
  negation_strips (t ∷ u ∷ ts) f vars = left_stripped (term.App op.Not (t ∷ u ∷ ts)) side.Concluded vars
  negation_strips (t ∷ []) f vars =
      let h = f.0 side.Assumed vars in
      record {
        more = h.more;
        vars_are = h.vars_are;
        forwards = λ env holds us a. h.forwards env (not_holds t env holds) us a;
        backwards = λ env all. holds_not t env (h.backwards env all);
      }

  app_strips : (o : Op) (s : Side) (ts : List Term) → AllByRecursion Strips ts → (vars : List Sort)
      → Stripped (term.App o ts) s vars (operator_stripped o s (map (λ t. (t, stripping t)) ts) (term.App o ts) s vars)
  app_strips op.Not side.Concluded ts f vars = negation_strips ts f vars
  app_strips o s ts f vars = left_stripped (term.App o ts) s vars

  pub strips : (t : Term) (s : Side) (vars : List Sort) → Stripped t s vars (prefix_of t s vars)
  strips = term_ind Strips (record {
    of_var = λ i s vars. subst (Stripped (term.Var i) s vars) (sym (prefix-Var s vars i)) (left_stripped (term.Var i) s vars);
    of_num = λ n s vars. subst (Stripped (term.Num n) s vars) (sym (prefix-Num s vars n)) (left_stripped (term.Num n) s vars);
    of_lit = λ b s vars. subst (Stripped (term.Lit b) s vars) (sym (prefix-Lit s vars b)) (left_stripped (term.Lit b) s vars);
    of_app = λ o ts f s vars. subst (Stripped (term.App o ts) s vars) (sym (prefix-App s vars o ts)) (app_strips o s ts f vars);
    of_pred = λ p ts f s vars. subst (Stripped (term.Pred p ts) s vars) (sym (prefix-Pred s vars p ts)) (left_stripped (term.Pred p ts) s vars);
    of_quant = quant_strips;
    of_call = λ k ts f s vars. subst (Stripped (term.Call k ts) s vars) (sym (prefix-Call s vars k ts)) (left_stripped (term.Call k ts) s vars);
  })
