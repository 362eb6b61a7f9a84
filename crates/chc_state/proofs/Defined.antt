-- What definitions that define a state's predicates mean: values as their sorts say.
use Rattle.std.proofs.Common.{◌≡◌, ℕ, zero, suc, ◌<◌, true, List, [], length, map, take, Option, Some, None, inl, inr, sym, ap, ◌∙◌, subst, arith}
use Rattle.std.specs.Prelude.{slice_get}
use Rattle.std.proofs.lemmas.Bool.{false≢true}
use Rattle.std.proofs.lemmas.Option.{slice_get_within}
use Rattle.chc_sorts.specs.declared.sort.Sort.{Sort}
use Rattle.chc_sorts.specs.declared.sort.Sort.TheVariants as sort
use Rattle.chc_sorts.specs.Signature.{Signature}
use Rattle.chc_values.specs.declared.value.Value.{Value}
use Rattle.chc_values.specs.declared.world.WorldEntry.{WorldEntry}
use Rattle.chc_values.specs.Values.{AreOf, IsOf}
use Rattle.chc_values.specs.Worlds.{IsWorld}
use Rattle.chc_terms.specs.declared.fun_sort.FunSort.{FunSort}
use Rattle.chc_terms.specs.Has.{Has, silent}
use Rattle.chc_terms.specs.Sorted.{Context}
use Rattle.chc_terms.specs.Laws.{IsFunctional, IsTotal, Means, AreTotal, OneValueUnderAny}
use Rattle.chc_state.specs.declared.clause.PredDecl.{PredDecl}
use Rattle.chc_state.specs.declared.defs.Def.{Def}
use Rattle.chc_state.specs.declared.defs.Defs.{Defs}
use Rattle.chc_state.specs.States.{StateView}
use Rattle.chc_state.specs.Sorts.{positions}
use Rattle.chc_state.specs.Definitions.{CallMeans, DefMeans, PredMeans, Decided, Defines, IsDefinition, IsPredicateOf, fun_sort, context_before}
use Rattle.chc_state.proofs.Places.{same_element, one_element, mapped-at, taken-at, beside-at}

-- what terms are over that use the state's predicates and the definitions
abbrev pub defined_context : StateView → Defs → Context
defined_context s d = record { sig = s.sig; preds = positions s.preds; defs = map fun_sort d.list }

module _ (sig : Signature) (w : List WorldEntry) (defs : List Def) where
  -- what the first definitions give is given by one of them
  pub CallMeans-below : (n k : ℕ) (vs : List Value) (v : Value) → CallMeans sig w defs n k vs v → k < n
  CallMeans-below zero k vs v h = absurd h
  CallMeans-below (suc n) k vs v (inl h) = let below : k < n = CallMeans-below n k vs v h in omega arith
  CallMeans-below (suc n) k vs v (inr h) = let same : k ≡ n = h.0 in omega arith

  -- the first n definitions mean what their sorts say
  abbrev AreFunctional : ℕ → Type 0
  AreFunctional n = (k : ℕ) (def : Def) → k < n → slice_get defs k ≡ Some def → IsFunctional sig (CallMeans sig w defs n) k def.params def.result

  means_before : (n : ℕ) → AreFunctional n → Means (context_before sig defs n) silent (CallMeans sig w defs n)
  means_before n fits =
      record {
        preds_fit = λ p params e. absurd (nowhere params e);
        defs_fit = λ k f e.
            let of_def = mapped-at fun_sort (take n defs) k f e in
            let at = taken-at n defs k of_def.0 of_def.1 in
            subst (λ (g : FunSort). IsFunctional sig (CallMeans sig w defs n) k g.params g.result) of_def.2 (fits k of_def.0 at.0 at.1);
      }
    where
      nowhere : (params : List Sort) → None ≡ Some params → ⊥
      nowhere params e = cc

  module _ (one : OneValueUnderAny) (world : IsWorld sig w) (definitions : (k : ℕ) (def : Def) → slice_get defs k ≡ Some def → IsDefinition sig defs k def) where
    body_functional : (n : ℕ) (def : Def) → AreFunctional n → slice_get defs n ≡ Some def
        → IsFunctional sig (λ k us v. Has sig w silent (CallMeans sig w defs n) def.body us v) 0 def.params def.result
    body_functional n def fits at =
        one (context_before sig defs n) w silent (CallMeans sig w defs n) world (means_before n fits) def.body def.params def.result (definitions n def at).sorted

    functional_next : (n : ℕ) → AreFunctional n → AreFunctional (suc n)
    functional_next n fits k def inside at = record { one = λ vs are u v a b. same vs are u v a b; of = λ vs are v a. sorted vs are v a }
      where
        here : (d : Def) → k ≡ n → slice_get defs n ≡ Some d → def ≡ d
        here d e f = one_element def d (ap (λ j. slice_get defs j) (sym e) ∙ at) f

        body_is : (vs : List Value) (v : Value) (d : Def) → d ≡ def → Has sig w silent (CallMeans sig w defs n) d.body vs v → Has sig w silent (CallMeans sig w defs n) def.body vs v
        body_is vs v d e h = subst (λ (x : Def). Has sig w silent (CallMeans sig w defs n) x.body vs v) e h

        same : (vs : List Value) → AreOf sig vs def.params → (u v : Value) → CallMeans sig w defs (suc n) k vs u → CallMeans sig w defs (suc n) k vs v → u ≡ v
        same vs are u v (inl a) (inl b) = (fits k def (CallMeans-below n k vs u a) at).one vs are u v a b
        same vs are u v (inl a) (inr b) = let below = CallMeans-below n k vs u a in let e : k ≡ n = b.0 in absurd (omega arith)
        same vs are u v (inr a) (inl b) = let below = CallMeans-below n k vs v b in let e : k ≡ n = a.0 in absurd (omega arith)
        same vs are u v (inr a) (inr b) =
            (body_functional n def fits (ap (λ j. slice_get defs j) (sym a.0) ∙ at)).one vs are u v
            (body_is vs u a.1 (sym (here a.1 a.0 a.2)) a.3) (body_is vs v b.1 (sym (here b.1 b.0 b.2)) b.3)

        sorted : (vs : List Value) → AreOf sig vs def.params → (v : Value) → CallMeans sig w defs (suc n) k vs v → IsOf sig v def.result
        sorted vs are v (inl a) = (fits k def (CallMeans-below n k vs v a) at).of vs are v a
        sorted vs are v (inr a) =
            (body_functional n def fits (ap (λ j. slice_get defs j) (sym a.0) ∙ at)).of vs are v (body_is vs v a.1 (sym (here a.1 a.0 a.2)) a.3)

    functional : (n : ℕ) → AreFunctional n
    functional zero = λ k def inside at. absurd (omega arith)
    functional (suc n) = functional_next n (functional n)

-- the definition of a predicate
pub record HasDefinition (defs : List Def) (decl : PredDecl) (k : ℕ) : Type 0 where
  pub live : decl.live ≡ true
  pub definition : Def
  pub at : slice_get defs k ≡ Some definition
  pub is : IsPredicateOf decl.sorts definition

module _ (s : StateView) (d : Defs) (defines : Defines d s) where
  -- where a predicate has a definition, it is the predicate's
  pub definition_of : (p k : ℕ) (decl : PredDecl) → slice_get s.preds p ≡ Some decl → slice_get d.of p ≡ Some (Some k) → HasDefinition d.list decl k
  definition_of p k decl e f =
      let h = defines.each p decl (Some k) e f in
      record { live = h.0; definition = h.1; at = h.2; is = h.3 }

  -- a live predicate has a definition
  pub live_defined : (p : ℕ) (decl : PredDecl) → slice_get s.preds p ≡ Some decl → decl.live ≡ true → (k : ℕ) × (slice_get d.of p ≡ Some (Some k))
  live_defined p decl e live = let found = beside-at s.preds d.of p decl defines.entries e in some found.0 found.1
    where
      some : (o : Option ℕ) → slice_get d.of p ≡ Some o → (k : ℕ) × (slice_get d.of p ≡ Some (Some k))
      some None f = absurd (false≢true (sym (defines.each p decl None e f) ∙ live))
      some (Some k) f = (k, f)

-- definitions mean what their sorts say, and so do the predicates that they define, by the law that a term
-- has at most one value
pub defined_means : OneValueUnderAny → (s : StateView) (w : List WorldEntry) (d : Defs) → IsWorld s.sig w → Defines d s
    → Means (defined_context s d) (PredMeans s.sig w d) (DefMeans s.sig w d)
defined_means one s w d world defines = record { preds_fit = λ p params e. of_pred p params e; defs_fit = λ k f e. of_call k f e }
  where
    of_def : (k : ℕ) (def : Def) → slice_get d.list k ≡ Some def → IsFunctional s.sig (DefMeans s.sig w d) k def.params def.result
    of_def k def at = functional s.sig w d.list one world defines.definitions (length d.list) k def (slice_get_within d.list k def at) at

    of_call : (k : ℕ) (f : FunSort) → slice_get (map fun_sort d.list) k ≡ Some f → IsFunctional s.sig (DefMeans s.sig w d) k f.params f.result
    of_call k f e =
        let found = mapped-at fun_sort d.list k f e in
        subst (λ (g : FunSort). IsFunctional s.sig (DefMeans s.sig w d) k g.params g.result) found.2 (of_def k found.0 found.1)

    pred_def : (p k : ℕ) (params : List Sort) → slice_get (positions s.preds) p ≡ Some params → slice_get d.of p ≡ Some (Some k)
        → IsFunctional s.sig (DefMeans s.sig w d) k params sort.Bool
    pred_def p k params e f =
        let found = mapped-at (λ (decl : PredDecl). decl.sorts) s.preds p params e in
        let h = definition_of s d defines p k found.0 found.1 f in
        let sorts : h.definition.params ≡ params = h.is.params ∙ found.2 in
        subst (λ (xs : List Sort). IsFunctional s.sig (DefMeans s.sig w d) k xs sort.Bool) sorts
        (subst (λ (r : Sort). IsFunctional s.sig (DefMeans s.sig w d) k h.definition.params r) h.is.result (of_def k h.definition h.at))

    of_pred : (p : ℕ) (params : List Sort) → slice_get (positions s.preds) p ≡ Some params → IsFunctional s.sig (PredMeans s.sig w d) p params sort.Bool
    of_pred p params e =
        record {
          one = λ vs are u v a b.
              let same : a.0 ≡ b.0 = number a.0 b.0 a.1 b.1 in
              (pred_def p b.0 params e b.1).one vs are u v (subst (λ k. DefMeans s.sig w d k vs u) same a.2) b.2;
          of = λ vs are v a. (pred_def p a.0 params e a.1).of vs are v a.2;
        }
      where
        number : (j k : ℕ) → slice_get d.of p ≡ Some (Some j) → slice_get d.of p ≡ Some (Some k) → j ≡ k
        number j k e f = same_element j k (one_element (Some j) (Some k) e f)

-- definitions have a value everywhere, and so do the live predicates
pub record Total (s : StateView) (w : List WorldEntry) (d : Defs) : Type 0 where
  pub defs_total : (k : ℕ) (f : FunSort) → slice_get (map fun_sort d.list) k ≡ Some f → IsTotal s.sig (DefMeans s.sig w d) k f.params
  pub live_total : (p : ℕ) (decl : PredDecl) → slice_get s.preds p ≡ Some decl → decl.live ≡ true → IsTotal s.sig (PredMeans s.sig w d) p decl.sorts

pub decided_total : (s : StateView) (w : List WorldEntry) (d : Defs) → Defines d s → Decided s.sig w d → Total s w d
decided_total s w d defines decided = record { defs_total = λ k f e. of_call k f e; live_total = λ p decl e live. of_pred p decl e live }
  where
    of_call : (k : ℕ) (f : FunSort) → slice_get (map fun_sort d.list) k ≡ Some f → IsTotal s.sig (DefMeans s.sig w d) k f.params
    of_call k f e =
        let found = mapped-at fun_sort d.list k f e in
        subst (λ (g : FunSort). IsTotal s.sig (DefMeans s.sig w d) k g.params) found.2 (decided.decides k found.0 found.1)

    of_pred : (p : ℕ) (decl : PredDecl) → slice_get s.preds p ≡ Some decl → decl.live ≡ true → IsTotal s.sig (PredMeans s.sig w d) p decl.sorts
    of_pred p decl e live vs are =
        let number = live_defined s d defines p decl e live in
        let h = definition_of s d defines p number.0 decl e number.1 in
        let found = decided.decides number.0 h.definition h.at vs (subst (λ (xs : List Sort). AreOf s.sig vs xs) (sym h.is.params) are) in
        (found.0, (number.0, number.1, found.1))

-- where all predicates are live, all have a value everywhere
pub all_live_total : (s : StateView) (w : List WorldEntry) (d : Defs) → Defines d s → Decided s.sig w d
    → ((p : ℕ) (decl : PredDecl) → slice_get s.preds p ≡ Some decl → decl.live ≡ true)
    → AreTotal (defined_context s d) (PredMeans s.sig w d) (DefMeans s.sig w d)
all_live_total s w d defines decided live =
    let total = decided_total s w d defines decided in
    record {
      preds_total = λ p params e.
          let found = mapped-at (λ (decl : PredDecl). decl.sorts) s.preds p params e in
          subst (λ (xs : List Sort). IsTotal s.sig (PredMeans s.sig w d) p xs) found.2 (total.live_total p found.0 found.1 (live p found.0 found.1));
      defs_total = total.defs_total;
    }
