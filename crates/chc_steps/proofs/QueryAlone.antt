-- States that are left with nothing to define, and the refutation by a query that asks for nothing.
use Rattle.std.proofs.Common.{◌≡◌, ◌↔◌, ℕ, zero, suc, ◌+◌, Bool, true, false, not, List, [], ◌∷◌, length, take, refl, sym, ◌∙◌, ap, subst, arith}
use Rattle.std.specs.Prelude.{Option, Some, None, slice_get}
use Rattle.std.specs.List.{list_all}
use Rattle.chc_values.specs.declared.world.WorldEntry.{WorldEntry}
use Rattle.chc_values.specs.Worlds.{IsWorld}
use Rattle.chc_sorts.specs.Signature.{Signature}
use Rattle.chc_state.specs.declared.clause.Clause.{Clause}
use Rattle.chc_state.specs.declared.clause.PredDecl.{PredDecl}
use Rattle.chc_state.specs.declared.defs.Defs.{Defs}
use Rattle.chc_state.specs.declared.refutation.RefStep.{RefStep}
use Rattle.chc_state.specs.declared.step.Step.{Step}
use Rattle.chc_state.specs.States.{StateView}
use Rattle.chc_state.specs.Definitions.{DefinedAs, Defines}
use Rattle.chc_state.specs.Refuting.{Refutes, StepHolds, IsOfQuery}
use Rattle.chc_state.proofs.Members.{In-at, all-at}
use Rattle.chc_state.proofs.Places.{same_element}
use Rattle.chc_steps.specs.declared.any.AnyUndo.{AnyUndo}
use Rattle.chc_steps.specs.Kinds.{IsLegal, after, StandsFor}
use Rattle.chc_steps.specs.Runs.{last, Stand, IsRun}
use Rattle.chc_steps.proofs.RunLaws.{Goes-last}

none_some : {X : Type 0} (x : X) → None ≡ Some x → ⊥
none_some x e = cc

not_live : (b : Bool) → not b ≡ true → b ≡ false
not_live false e = refl
not_live true e = absurd (wrong e)
  where
    wrong : false ≡ true → ⊥
    wrong e = cc

-- no predicate of four has a definition
abbrev pub four_without : List (Option ℕ)
four_without = None ∷ None ∷ None ∷ None ∷ []

without : (p : ℕ) (o : Option ℕ) → slice_get four_without p ≡ Some o → o ≡ None
without zero o e = sym (same_element None o e)
without (suc zero) o e = sym (same_element None o e)
without (suc (suc zero)) o e = sym (same_element None o e)
without (suc (suc (suc zero))) o e = sym (same_element None o e)
without (suc (suc (suc (suc p)))) o e = absurd (none_some o e)

pub none_defined : (d : Defs) (s : StateView) → d.list ≡ [] → d.of ≡ four_without → length s.preds ≡ 4
    → list_all (λ (p : PredDecl). not p.live) s.preds ≡ true → Defines d s
none_defined d s list of four dead = record {
  entries = ap length of ∙ sym four;
  each = λ p decl o declared at.
      let P : Option ℕ → Type 0 = DefinedAs d.list decl in
      let at_of : slice_get four_without p ≡ Some o = rw of at at in
      let is_dead : decl.live ≡ false = not_live decl.live (all-at (λ (q : PredDecl). not q.live) decl s.preds dead (In-at s.preds p decl declared)) in
      subst P (sym (without p o at_of)) is_dead;
  apart = λ p q k at_p at_q.
      let at_of : slice_get four_without p ≡ Some (Some k) = rw of at at_p in
      absurd (none_some k (sym (without p (Some k) at_of)));
  definitions = λ k def at.
      let at_list : slice_get [] k ≡ Some def = rw list at at in
      absurd (none_some def at_list);
}

-- what may be handed to the way back of definitions over the run
pub defs_stand : (s z : StateView) (steps : List Step) (undos : List AnyUndo) (d : Defs) → IsRun after StandsFor IsLegal s steps undos z
    → Defines d z → (t : StateView) × Stand after StandsFor undos t steps × Defines d (last after t steps)
defs_stand s z steps undos d run defines =
    let P : StateView → Type 0 = Defines d in
    (s, run.stand, subst P (sym (Goes-last after IsLegal s steps z run.goes)) defines)

-- the clauses are one query without variables, conjuncts and body atoms
abbrev pub AskNothing : List Clause → Type 0
AskNothing cs = (c : Clause) × (cs ≡ c ∷ []) × (c.head ≡ None) × (c.vars ≡ []) × (c.conj ≡ []) × (c.body ≡ [])

-- the step on the first clause, without values and premises
abbrev pub first_alone : RefStep
first_alone = record { clause = 0; values = []; premises = [] }

pub asks_refuted : (s : StateView) (w : List WorldEntry) (c : Clause) → slice_get s.clauses 0 ≡ Some c → c.head ≡ None → c.vars ≡ [] → c.conj ≡ [] → c.body ≡ []
    → Refutes s w (first_alone ∷ [])
asks_refuted s w c at head vars conj body = record { some = λ e. cc; each = each; query = query }
  where
    step_holds : StepHolds s.sig w s.clauses [] first_alone
    step_holds = record { clause = c; named = at; sorted = rw vars tt; truths = rw conj tt; premises = rw body tt }

    each : (n : ℕ) (x : RefStep) → slice_get (first_alone ∷ []) n ≡ Some x → StepHolds s.sig w s.clauses (take n (first_alone ∷ [])) x
    each zero x e =
        let P : RefStep → Type 0 = StepHolds s.sig w s.clauses [] in
        subst P (same_element first_alone x e) step_holds
    each (suc n) x e = absurd (none_some x e)

    query : (n : ℕ) (x : RefStep) → slice_get (first_alone ∷ []) n ≡ Some x → IsOfQuery s.clauses x ↔ (n + 1 ≡ 1)
    query zero x e =
        let P : RefStep → Type 0 = IsOfQuery s.clauses in
        (λ q. refl, λ q. subst P (same_element first_alone x e) (c, at, head))
    query (suc n) x e = absurd (none_some x e)

pub no_entries : (sig : Signature) → IsWorld sig []
no_entries sig = (tt, λ k d inside. absurd (omega (arith, inside)))

-- what may be handed to the way back of refutations over the run
pub steps_stand : (s z : StateView) (steps : List Step) (undos : List AnyUndo) (w : List WorldEntry) (r : List RefStep) → IsRun after StandsFor IsLegal s steps undos z
    → w ≡ [] → r ≡ first_alone ∷ [] → AskNothing z.clauses
    → (t : StateView) × Stand after StandsFor undos t steps × IsWorld t.sig w × Refutes (last after t steps) w r
steps_stand s z steps undos w r run empty one asks =
    let refuted : Refutes z w r = rw one (asks_refuted z w asks.0 (ap (λ (cs : List Clause). slice_get cs 0) asks.1) asks.2 asks.3 asks.4 asks.5) in
    let P : StateView → Type 0 = λ t. Refutes t w r in
    (s, run.stand, rw empty (no_entries s.sig), subst P (sym (Goes-last after IsLegal s steps z run.goes)) refuted)
