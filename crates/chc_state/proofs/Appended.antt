-- Definitions keep their meaning where others are appended.
use Rattle.std.proofs.Common.{◌≡◌, ℕ, zero, suc, ◌≤◌, List, [], ◌∷◌, ◌++◌, length, map, Option, Some, inl, inr, ◌⊎◌, refl, sym, ap, ◌∙◌, subst, arith, length-append}
use Rattle.std.specs.Prelude.{slice_get}
use Rattle.chc_sorts.specs.Signature.{Signature}
use Rattle.chc_values.specs.declared.value.Value.{Value}
use Rattle.chc_values.specs.declared.world.WorldEntry.{WorldEntry}
use Rattle.chc_terms.specs.Has.{Meaning, Has, silent}
use Rattle.chc_terms.specs.Sorted.{sort_of}
use Rattle.chc_state.specs.declared.defs.Def.{Def}
use Rattle.chc_state.specs.Definitions.{CallMeans, IsDefinition, fun_sort}
use Rattle.chc_state.proofs.Places.{element-at, at-longer, at-end, one_element, take-longer}

module _ (sig : Signature) (w : List WorldEntry) where
  -- what is meant with one definition more
  abbrev next_meaning : Meaning → Option Def → ℕ → Meaning
  next_meaning m o n = λ k vs v. m k vs v ⊎ ((k ≡ n) × (d : Def) × (o ≡ Some d) × Has sig w silent m d.body vs v)

  -- the first definitions mean the same where more are appended
  pub CallMeans-longer : (defs more : List Def) (n : ℕ) → n ≤ length defs → CallMeans sig w (defs ++ more) n ≡ CallMeans sig w defs n
  CallMeans-longer defs more zero h = refl
  CallMeans-longer defs more (suc n) h =
      let found = element-at defs n (omega arith) in
      let same = CallMeans-longer defs more n (omega arith) in
      let at : slice_get (defs ++ more) n ≡ slice_get defs n = at-longer defs more n found.0 found.1 ∙ sym found.1 in
      λ i. next_meaning (same i) (at i) n

  module _ (defs : List Def) (def : Def) where
    longer : List Def
    longer = defs ++ def ∷ []

    one_more : length longer ≡ suc (length defs)
    unfolding longer
    one_more = omega (arith, length-append defs (def ∷ []))

    before : CallMeans sig w longer (length defs) ≡ CallMeans sig w defs (length defs)
    unfolding longer
    before = CallMeans-longer defs (def ∷ []) (length defs) (omega arith)

    -- what the definitions and one more give, some of the definitions gives, or the body of the last
    pub from_last : (k : ℕ) (vs : List Value) (v : Value) → CallMeans sig w (defs ++ def ∷ []) (length (defs ++ def ∷ [])) k vs v
        → CallMeans sig w defs (length defs) k vs v ⊎ ((k ≡ length defs) × Has sig w silent (CallMeans sig w defs (length defs)) def.body vs v)
    unfolding longer
    from_last k vs v h = go (subst (λ n. CallMeans sig w longer n k vs v) one_more h)
      where
        body_is : (d : Def) → slice_get longer (length defs) ≡ Some d → Has sig w silent (CallMeans sig w longer (length defs)) d.body vs v
            → Has sig w silent (CallMeans sig w defs (length defs)) def.body vs v
        body_is d e b =
            let same : d ≡ def = one_element d def e (at-end defs def) in
            subst (λ (m : Meaning). Has sig w silent m def.body vs v) before
            (subst (λ (x : Def). Has sig w silent (CallMeans sig w longer (length defs)) x.body vs v) same b)

        go : CallMeans sig w longer (suc (length defs)) k vs v
            → CallMeans sig w defs (length defs) k vs v ⊎ ((k ≡ length defs) × Has sig w silent (CallMeans sig w defs (length defs)) def.body vs v)
        go (inl a) = inl (subst (λ (m : Meaning). m k vs v) before a)
        go (inr a) = inr (a.0, body_is a.1 a.2 a.3)

    pub to_last : (k : ℕ) (vs : List Value) (v : Value)
        → CallMeans sig w defs (length defs) k vs v ⊎ ((k ≡ length defs) × Has sig w silent (CallMeans sig w defs (length defs)) def.body vs v)
        → CallMeans sig w (defs ++ def ∷ []) (length (defs ++ def ∷ [])) k vs v
    unfolding longer
    to_last k vs v h = subst (λ n. CallMeans sig w longer n k vs v) (sym one_more) (go h)
      where
        go : CallMeans sig w defs (length defs) k vs v ⊎ ((k ≡ length defs) × Has sig w silent (CallMeans sig w defs (length defs)) def.body vs v)
            → CallMeans sig w longer (suc (length defs)) k vs v
        go (inl a) = inl (subst (λ (m : Meaning). m k vs v) (sym before) a)
        go (inr a) = inr (a.0, def, at-end defs def, subst (λ (m : Meaning). Has sig w silent m def.body vs v) (sym before) a.1)

-- an earlier definition is a definition still
pub IsDefinition-longer : (sig : Signature) (defs more : List Def) (k : ℕ) (d : Def) → k ≤ length defs → IsDefinition sig defs k d → IsDefinition sig (defs ++ more) k d
IsDefinition-longer sig defs more k d within h =
    record {
      params_fit = h.params_fit;
      result_fits = h.result_fits;
      body_fits = h.body_fits;
      sorted = ap (λ (earlier : List Def). sort_of (record { sig = sig; preds = []; defs = map fun_sort earlier }) d.body d.params) (take-longer k defs more within) ∙ h.sorted;
    }
