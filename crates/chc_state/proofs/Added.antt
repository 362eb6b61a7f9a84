-- One more definition at the end of a list, which becomes a predicate's.
use Rattle.std.proofs.Common.{◌≡◌, ◌≢◌, ℕ, ◌<◌, ◌≤◌, true, List, [], ◌∷◌, ◌++◌, length, set, Option, Some, None, inl, inr, ◌⊎◌, refl, sym, ap, ◌∙◌, subst, arith, length-set, length-append, ◌+◌}
use Rattle.std.specs.Prelude.{slice_get}
use Rattle.std.proofs.lemmas.Bool.{cases_eq}
use Rattle.std.proofs.lemmas.Option.{slice_get_within}
use Rattle.chc_sorts.specs.Signature.{Signature}
use Rattle.chc_values.specs.declared.value.Value.{Value}
use Rattle.chc_values.specs.declared.world.WorldEntry.{WorldEntry}
use Rattle.chc_terms.specs.Has.{Has, silent}
use Rattle.chc_state.specs.declared.clause.PredDecl.{PredDecl}
use Rattle.chc_state.specs.declared.defs.Def.{Def}
use Rattle.chc_state.specs.declared.defs.Defs.{Defs}
use Rattle.chc_state.specs.States.{StateView}
use Rattle.chc_state.specs.Definitions.{DefMeans, PredMeans, Defines, DefinedAs, IsDefinition, IsPredicateOf}
use Rattle.chc_state.proofs.Places.{same_element, one_element, at-longer, at-end, end-at, at-changed, at-unchanged, beside-at}
use Rattle.chc_state.proofs.Defined.{CallMeans-below, definition_of}
use Rattle.chc_state.proofs.Appended.{from_last, to_last, IsDefinition-longer}

-- the definitions with one more at the end, which is the predicate's
abbrev pub added : Defs → ℕ → Def → Defs
added d p def = record { list = d.list ++ def ∷ []; of = set d.of p (Some (length d.list)) }

-- every predicate's definition stands in the list
pub record StandInList (d : Defs) : Type 0 where
  pub below : (p k : ℕ) → slice_get d.of p ≡ Some (Some k) → k < length d.list

pub StandInList-defined : (s : StateView) (d : Defs) → Defines d s → StandInList d
StandInList-defined s d defines =
    record {
      below = λ p k f.
          let decl = beside-at d.of s.preds p (Some k) (sym defines.entries) f in
          let h = definition_of s d defines p k decl.0 decl.1 f in
          slice_get_within d.list k h.definition h.at;
    }

pub StandInList-added : (d : Defs) (p : ℕ) (def : Def) → StandInList d → p < length d.of → StandInList (added d p def)
StandInList-added d p def stand inside = record { below = below }
  where
    long : length (d.list ++ def ∷ []) ≡ length d.list + 1
    long = length-append d.list (def ∷ [])

    below : (q k : ℕ) → slice_get (set d.of p (Some (length d.list))) q ≡ Some (Some k) → k < length (d.list ++ def ∷ [])
    below q k f = elim (cases_eq q p) [
      | inl e ↦
          let here : slice_get (set d.of p (Some (length d.list))) q ≡ Some (Some (length d.list)) = ap (λ j. slice_get (set d.of p (Some (length d.list))) j) e ∙ at-changed d.of p (Some (length d.list)) inside in
          let same : k ≡ length d.list = same_element k (length d.list) (one_element (Some k) (Some (length d.list)) f here) in
          omega (arith, long)
      | inr ne ↦
          let old = stand.below q k (sym (at-unchanged d.of p q (Some (length d.list)) ne) ∙ f) in
          omega (arith, long)
    ]

module _ (sig : Signature) (w : List WorldEntry) (d : Defs) (p : ℕ) (def : Def) (stand : StandInList d) where
  -- other predicates mean what they meant
  pub from_other : (q : ℕ) (us : List Value) (v : Value) → q ≢ p → PredMeans sig w (added d p def) q us v → PredMeans sig w d q us v
  from_other q us v ne h = (h.0, at, old (from_last sig w d.list def h.0 us v h.2))
    where
      at : slice_get d.of q ≡ Some (Some h.0)
      at = sym (at-unchanged d.of p q (Some (length d.list)) ne) ∙ h.1

      old : DefMeans sig w d h.0 us v ⊎ ((h.0 ≡ length d.list) × Has sig w silent (DefMeans sig w d) def.body us v) → DefMeans sig w d h.0 us v
      old (inl a) = a
      old (inr a) = let below = stand.below q h.0 at in let e = a.0 in absurd (omega arith)

  pub to_other : (q : ℕ) (us : List Value) (v : Value) → q ≢ p → PredMeans sig w d q us v → PredMeans sig w (added d p def) q us v
  to_other q us v ne h = (h.0, at-unchanged d.of p q (Some (length d.list)) ne ∙ h.1, to_last sig w d.list def h.0 us v (inl h.2))

  -- the predicate means what the body says
  pub from_same : p < length d.of → (us : List Value) (v : Value) → PredMeans sig w (added d p def) p us v → Has sig w silent (DefMeans sig w d) def.body us v
  from_same inside us v h = new (from_last sig w d.list def h.0 us v h.2)
    where
      last : h.0 ≡ length d.list
      last = same_element h.0 (length d.list) (one_element (Some h.0) (Some (length d.list)) h.1 (at-changed d.of p (Some (length d.list)) inside))

      new : DefMeans sig w d h.0 us v ⊎ ((h.0 ≡ length d.list) × Has sig w silent (DefMeans sig w d) def.body us v) → Has sig w silent (DefMeans sig w d) def.body us v
      new (inl a) = let below = CallMeans-below sig w d.list (length d.list) h.0 us v a in let e = last in absurd (omega arith)
      new (inr a) = a.1

  pub to_same : p < length d.of → (us : List Value) (v : Value) → Has sig w silent (DefMeans sig w d) def.body us v → PredMeans sig w (added d p def) p us v
  to_same inside us v h =
      (length d.list, at-changed d.of p (Some (length d.list)) inside, to_last sig w d.list def (length d.list) us v (inr (refl, h)))

-- the states differ in one predicate, which is live in the second
pub record DiffersAt (z s : StateView) (p : ℕ) (decl : PredDecl) : Type 0 where
  pub same_sig : z.sig ≡ s.sig
  pub counts : length z.preds ≡ length s.preds
  pub others : (q : ℕ) → q ≢ p → slice_get z.preds q ≡ slice_get s.preds q
  pub here : slice_get s.preds p ≡ Some decl
  pub live : decl.live ≡ true

DefinedAs-longer : (defs : List Def) (def : Def) (decl : PredDecl) (o : Option ℕ) → DefinedAs defs decl o → DefinedAs (defs ++ def ∷ []) decl o
DefinedAs-longer defs def decl None h = h
DefinedAs-longer defs def decl (Some k) h = (h.0, h.1, at-longer defs (def ∷ []) k h.1 h.2, h.3)

-- with a definition more for it, the list defines the second's predicates
pub Defines-added : (z s : StateView) (d : Defs) (p : ℕ) (decl : PredDecl) (def : Def) → Defines d z → DiffersAt z s p decl
    → IsPredicateOf decl.sorts def → IsDefinition s.sig (d.list ++ def ∷ []) (length d.list) def → Defines (added d p def) s
Defines-added z s d p decl def defines differs is_pred is_def = record { entries = entries; each = each; apart = apart; definitions = definitions }
  where
    entries : length (set d.of p (Some (length d.list))) ≡ length s.preds
    entries = length-set d.of p (Some (length d.list)) ∙ defines.entries ∙ differs.counts

    inside : p < length d.of
    inside = let at = slice_get_within s.preds p decl differs.here in omega (arith, defines.entries, differs.counts)

    here : slice_get (set d.of p (Some (length d.list))) p ≡ Some (Some (length d.list))
    here = at-changed d.of p (Some (length d.list)) inside

    stand : StandInList d
    stand = StandInList-defined z d defines

    each : (q : ℕ) (decl' : PredDecl) (o : Option ℕ) → slice_get s.preds q ≡ Some decl' → slice_get (set d.of p (Some (length d.list))) q ≡ Some o → DefinedAs (d.list ++ def ∷ []) decl' o
    each q decl' o e f = elim (cases_eq q p) [
      | inl same ↦
          let is : decl ≡ decl' = one_element decl decl' differs.here (ap (λ j. slice_get s.preds j) (sym same) ∙ e) in
          let number : Some (length d.list) ≡ o = one_element (Some (length d.list)) o here (ap (λ j. slice_get (set d.of p (Some (length d.list))) j) (sym same) ∙ f) in
          let last : DefinedAs (d.list ++ def ∷ []) decl (Some (length d.list)) = (differs.live, def, at-end d.list def, is_pred) in
          subst (λ (x : PredDecl). DefinedAs (d.list ++ def ∷ []) x o) is (subst (λ (x : Option ℕ). DefinedAs (d.list ++ def ∷ []) decl x) number last)
      | inr ne ↦
          DefinedAs-longer d.list def decl' o
          (defines.each q decl' o (differs.others q ne ∙ e) (sym (at-unchanged d.of p q (Some (length d.list)) ne) ∙ f))
    ]

    old : (q k : ℕ) → q ≢ p → slice_get (set d.of p (Some (length d.list))) q ≡ Some (Some k) → slice_get d.of q ≡ Some (Some k)
    old q k ne f = sym (at-unchanged d.of p q (Some (length d.list)) ne) ∙ f

    only : (q k : ℕ) → q ≡ p → slice_get (set d.of p (Some (length d.list))) q ≡ Some (Some k) → k ≡ length d.list
    only q k same f = same_element k (length d.list) (one_element (Some k) (Some (length d.list)) (ap (λ j. slice_get (set d.of p (Some (length d.list))) j) (sym same) ∙ f) here)

    apart : (q r k : ℕ) → slice_get (set d.of p (Some (length d.list))) q ≡ Some (Some k) → slice_get (set d.of p (Some (length d.list))) r ≡ Some (Some k) → q ≡ r
    apart q r k f g = elim (cases_eq q p) [
      | inl same ↦ elim (cases_eq r p) [
        | inl too ↦ same ∙ sym too
        | inr ne ↦ let number = only q k same f in let below = stand.below r k (old r k ne g) in absurd (omega arith)
      ]
      | inr ne ↦ elim (cases_eq r p) [
        | inl same ↦ let number = only r k same g in let below = stand.below q k (old q k ne f) in absurd (omega arith)
        | inr too ↦ defines.apart q r k (old q k ne f) (old r k too g)
      ]
    ]

    definitions : (k : ℕ) (x : Def) → slice_get (d.list ++ def ∷ []) k ≡ Some x → IsDefinition s.sig (d.list ++ def ∷ []) k x
    definitions k x e = elim (end-at d.list def k x e) [
      | inl h ↦
          let below : k ≤ length d.list = omega (arith, h.0) in
          IsDefinition-longer s.sig d.list (def ∷ []) k x below (subst (λ (sig : Signature). IsDefinition sig d.list k x) differs.same_sig (defines.definitions k x h.1))
      | inr h ↦
          subst (λ (y : Def). IsDefinition s.sig (d.list ++ def ∷ []) k y) h.1 (subst (λ j. IsDefinition s.sig (d.list ++ def ∷ []) j def) (sym h.0) is_def)
    ]
