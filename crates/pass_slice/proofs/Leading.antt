-- Both kinds of steps have a way back of definitions.
use Rattle.std.proofs.Common.{◌≡◌, ℕ, true, false, List, length, inl, inr, refl, ◌∙◌}
use Rattle.std.specs.List.{list_all}
use Rattle.std.proofs.lemmas.Bool.{and_parts, cases_Bool, false≢true}
use Rattle.chc_sorts.specs.WellFounded.{IsWellFounded}
use Rattle.chc_values.specs.declared.value.Value.{Value}
use Rattle.chc_values.specs.declared.world.WorldEntry.{WorldEntry}
use Rattle.chc_state.specs.declared.defs.Defs.{Defs}
use Rattle.pass_slice.specs.Slices.{Slice, truth, sliced, CanGo}
use Rattle.chc_state.specs.States.{StateView, is_live}
use Rattle.chc_state.specs.Sorts.{positions, positions_fit, is_sorted_clause, are_sorted}
use Rattle.chc_state.specs.PredSets.{set_of}
use Rattle.chc_state.specs.Definitions.{Says, Defines}
use Rattle.chc_state.specs.Back.{with_constants, KeepsHolding, LeadsBack}
use Rattle.chc_state.specs.Passes.{IsState}
use Rattle.chc_state.proofs.Transfers.{Within}
use Rattle.chc_state.proofs.Modelled.{modelled, AllTrue-same}
use Rattle.chc_state.proofs.Added.{StandInList-defined}
use Rattle.chc_state.proofs.Constants.{SaysBack, constants_define, constants_say}
use Rattle.pass_slice.proofs.Answering.{avoiding, granting, unreached, unneeded}
use Rattle.pass_slice.proofs.Bounding.{live_inside}
use Rattle.pass_slice.proofs.Removing.{are_sorted-sliced}
use Rattle.pass_slice.proofs.Taking.{length-sliced}
use Rattle.pass_slice.specs.Undos.{slice_back}
use Rattle.chc_state.proofs.Forming.{formed_sorted}

-- a state's clauses are well sorted, and fit
sorted_parts : (s : StateView) → are_sorted s.sig s.preds s.clauses ≡ true → (positions_fit s.sig s.preds ≡ true) × (list_all (is_sorted_clause s.sig (positions s.preds)) s.clauses ≡ true)
sorted_parts s h = and_parts (positions_fit s.sig s.preds) (list_all (is_sorted_clause s.sig (positions s.preds)) s.clauses) h

module _ (s : StateView) (ps : List ℕ) (d : Defs) (founded : IsWellFounded s.sig) (sorted : are_sorted s.sig s.preds s.clauses ≡ true) where
  -- what is said of each predicate, where the definitions define those that are live after the slice
  said : (x : Slice) → Defines d (sliced x s ps) → list_all (is_live s.preds) ps ≡ true
      → (w : List WorldEntry) (q : ℕ) (us : List Value) → SaysBack s.sig w (set_of ps) (truth x) d (with_constants (positions s.preds) (truth x) ps d) q us
  said x defines live w q us =
      constants_say s.sig w (positions s.preds) (truth x) ps d (StandInList-defined (sliced x s ps) d defines)
      (live_inside s.preds ps (length d.of) (defines.entries ∙ length-sliced x s ps) live) q us

  sorted_after : (x : Slice) → list_all (is_sorted_clause s.sig (positions (sliced x s ps).preds)) (sliced x s ps).clauses ≡ true
  sorted_after x = (sorted_parts (sliced x s ps) (are_sorted-sliced x s ps sorted)).1

  -- what the definitions before say is what those after say of the predicates outside the set, and nothing of those in it
  into_avoiding : (w : List WorldEntry) (e : Defs) → ((q : ℕ) (us : List Value) → SaysBack s.sig w (set_of ps) false d e q us)
      → Within (Says s.sig w e) (avoiding s.sig w s.clauses (set_of ps) (Says s.sig w d))
  unfolding avoiding
  into_avoiding w e says q us h = elim (cases_Bool (set_of ps q)) [
    | inl in_set ↦ absurd (false≢true ((says q us).from_set in_set h))
    | inr out ↦ ((says q us).from_other out h, out)
  ]

  out_avoiding : (w : List WorldEntry) (e : Defs) → ((q : ℕ) (us : List Value) → SaysBack s.sig w (set_of ps) false d e q us)
      → Within (avoiding s.sig w s.clauses (set_of ps) (Says s.sig w d)) (Says s.sig w e)
  unfolding avoiding
  out_avoiding w e says q us h = (says q us).to_other h.1 h.0

  -- and everything of those in it
  into_granting : (w : List WorldEntry) (e : Defs) → ((q : ℕ) (us : List Value) → SaysBack s.sig w (set_of ps) true d e q us)
      → Within (Says s.sig w e) (granting s.sig w s.clauses (set_of ps) (Says s.sig w d))
  unfolding granting
  into_granting w e says q us h out = (says q us).from_other out h

  out_granting : (w : List WorldEntry) (e : Defs) → ((q : ℕ) (us : List Value) → SaysBack s.sig w (set_of ps) true d e q us)
      → Within (granting s.sig w s.clauses (set_of ps) (Says s.sig w d)) (Says s.sig w e)
  unfolding granting
  out_granting w e says q us h = elim (cases_Bool (set_of ps q)) [ inl in_set ↦ (says q us).to_set in_set refl | inr out ↦ (says q us).to_other out (h out) ]

  keeps : (x : Slice) → CanGo x s ps → Defines d (sliced x s ps) → KeepsHolding (sliced x s ps) d s (with_constants (positions s.preds) (truth x) ps d)
  keeps Slice.forward legal defines w world holds =
      let e = with_constants (positions s.preds) false ps d in
      let says = said Slice.forward defines legal.live w in
      record {
        holds = AllTrue-same s.sig w (Says s.sig w e) (avoiding s.sig w s.clauses (set_of ps) (Says s.sig w d)) (into_avoiding w e says) (out_avoiding w e says) s.clauses
            (modelled s.sig w world founded (positions s.preds) (positions (sliced Slice.forward s ps).preds) s.clauses (sliced Slice.forward s ps).clauses
            (avoiding s.sig w s.clauses (set_of ps)) (unreached s.sig w s.clauses (set_of ps) legal.meets) (sorted_parts s sorted).1 (sorted_after Slice.forward)
            (Says s.sig w d) holds.holds);
      }
  keeps Slice.backward legal defines w world holds =
      let e = with_constants (positions s.preds) true ps d in
      let says = said Slice.backward defines legal.live w in
      record {
        holds = AllTrue-same s.sig w (Says s.sig w e) (granting s.sig w s.clauses (set_of ps) (Says s.sig w d)) (into_granting w e says) (out_granting w e says) s.clauses
            (modelled s.sig w world founded (positions s.preds) (positions (sliced Slice.backward s ps).preds) s.clauses (sliced Slice.backward s ps).clauses
            (granting s.sig w s.clauses (set_of ps)) (unneeded s.sig w s.clauses (set_of ps) legal.meets) (sorted_parts s sorted).1 (sorted_after Slice.backward)
            (Says s.sig w d) holds.holds);
      }

  -- the way back leads from definitions after the slice to definitions before it
  leads : (x : Slice) → CanGo x s ps → Defines d (sliced x s ps) → LeadsBack s d (with_constants (positions s.preds) (truth x) ps d) (sliced x s ps)
  leads x legal defines =
      record {
        defines = constants_define s (truth x) (sorted_parts s sorted).0 ps d legal.ascending legal.live
            (record { entries = defines.entries; each = defines.each; apart = defines.apart; definitions = defines.definitions });
        keeps = keeps x legal defines;
      }

pub leads_back : (x : Slice) (s : StateView) (ps : List ℕ) (d : Defs) → IsState s → CanGo x s ps → Defines d (sliced x s ps)
    → LeadsBack s d (slice_back x s ps d) (sliced x s ps)
leads_back x s ps d state legal defines = leads s ps d state.founded (formed_sorted s.sig s.preds s.clauses state.formed) x legal defines
