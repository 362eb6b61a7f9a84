-- What is made before a slice is its undo, and the way back by it.
use Rattle.std.proofs.Common.{◌≡◌, ◌<◌, ◌^◌, ℕ, ◌≤◌, Bool, true, ◌&&◌, List, [], ◌∷◌, length, map, Option, Some, None, Ok, refl, sym, ap, ◌∙◌, subst, arith}
use Rattle.std.proofs.Math.Path.{fun_ext}
use Rattle.std.specs.Prelude.{nat_lt, slice_get}
use Rattle.std.specs.List.{list_all}
use Rattle.std.proofs.lemmas.Bool.{ltb-false}
use Rattle.std.proofs.lemmas.Option.{slice_get_within}
use Rattle.chc_values.specs.declared.world.WorldEntry.{WorldEntry}
use Rattle.chc_state.specs.declared.defs.Defs.{Defs}
use Rattle.chc_state.specs.declared.refutation.RefStep.{RefStep}
use Rattle.chc_state.specs.States.{StateView}
use Rattle.chc_state.specs.Sorts.{positions}
use Rattle.chc_state.specs.Limits.{first_passed}
use Rattle.chc_state.specs.PredSets.{PredSet, set_of, is_ascending}
use Rattle.chc_state.specs.Definitions.{Defines}
use Rattle.chc_state.specs.Back.{with_constants}
use Rattle.chc_state.specs.Refuting.{Refutes, numbers_where, number_before, numbered}
use Rattle.chc_state.specs.Passes.{IsState, Finds, RefutesBack, TurnsBack}
use Rattle.chc_state.proofs.Limiting.{WithinLimits-from_none}
use Rattle.chc_state.proofs.Turning.{refutes_renumbered, stays_at}
use Rattle.pass_slice.specs.declared.sliced.Removed.{Removed}
use Rattle.pass_slice.specs.declared.sliced.Sliced.{Sliced}
use Rattle.pass_slice.specs.Slices.{Slice, goes, truth, sliced, CanGo, IsGreatest, IsSliced, Greatest}
use Rattle.pass_slice.specs.Tables.{marked}
use Rattle.pass_slice.specs.Undos.{Stands, removed_from, with_one, with_removed, gone_numbers, slice_back, slice_turned}
use Rattle.pass_slice.proofs.Bounding.{live_inside, set_of-live}
use Rattle.pass_slice.proofs.Numbering.{numbers-ascend}
use Rattle.pass_slice.proofs.Removing.{HasLive-some}
use Rattle.pass_slice.proofs.Taking.{length-sliced}

-- the numbers of the clauses that go, as a table tells them
pub undone : (x : Slice) (s : StateView) (ps : List ℕ) (table : List Bool) (u : Sliced) → IsState s → CanGo x s ps → ((q : ℕ) → marked table q ≡ set_of ps q)
    → u.removed ≡ map (removed_from s) ps → u.clauses ≡ numbers_where (goes x (marked table)) 0 s.clauses → Stands x u s ps
undone x s ps table u state legal same removed clauses =
    record {
      state = state;
      legal = legal;
      removed = removed;
      clauses = clauses ∙ ap (λ (set : PredSet). numbers_where (goes x set) 0 s.clauses) (fun_ext same);
    }

-- the definitions of the undo's predicates
with_removed_is : (b : Bool) (s : StateView) (ps : List ℕ) (d : Defs) → with_removed b (map (removed_from s) ps) d ≡ with_constants (positions s.preds) b ps d
with_removed_is b s [] d = refl
with_removed_is b s (p ∷ ps) d = with_removed_is b s ps (with_one b (removed_from s p) d)

pub slice_back_is : (x : Slice) (u : Sliced) (s : StateView) (ps : List ℕ) (d : Defs) → Stands x u s ps → with_removed (truth x) u.removed d ≡ slice_back x s ps d
slice_back_is x u s ps d stands = ap (λ (removed : List Removed). with_removed (truth x) removed d) stands.removed ∙ with_removed_is (truth x) s ps d

removed_inside : (n : ℕ) (s : StateView) (ps : List ℕ) → list_all (λ (y : Removed). nat_lt y.pred n) (map (removed_from s) ps) ≡ list_all (λ p. nat_lt p n) ps
removed_inside n s [] = refl
removed_inside n s (p ∷ ps) = ap (λ b. nat_lt p n && b) (removed_inside n s ps)

pub slice_inside : (x : Slice) (u : Sliced) (s : StateView) (ps : List ℕ) (d : Defs) → Stands x u s ps → Defines d (sliced x s ps)
    → list_all (λ (y : Removed). nat_lt y.pred (length d.of)) u.removed ≡ true
slice_inside x u s ps d stands defines =
    ap (list_all (λ (y : Removed). nat_lt y.pred (length d.of))) stands.removed ∙ removed_inside (length d.of) s ps
    ∙ live_inside s.preds ps (length d.of) (defines.entries ∙ length-sliced x s ps) stands.legal.live

-- the numbers of the clauses that go ascend
pub gone_ascend : (x : Slice) (u : Sliced) (s : StateView) (ps : List ℕ) → Stands x u s ps → is_ascending u.clauses ≡ true
gone_ascend x u s ps stands = ap is_ascending stands.clauses ∙ numbers-ascend (goes x (set_of ps)) 0 s.clauses

-- a state has few clauses
pub few_clauses : (s : StateView) → first_passed s.preds s.clauses ≡ None → length s.clauses ≤ 65536
few_clauses s within = let h = WithinLimits-from_none s.preds s.clauses within in omega (arith, ltb-false _ _ h.clauses)

-- the numbers of the clauses that steps name are those of clauses before
pub number_fits : (x : Slice) (u : Sliced) (s : StateView) (ps : List ℕ) (w : List WorldEntry) (r : List RefStep) → Stands x u s ps → Refutes (sliced x s ps) w r
    → (n : ℕ) (y : RefStep) → slice_get r n ≡ Some y → number_before u.clauses y.clause < 2 ^ 32
number_fits x u s ps w r stands refutes n y at =
    let step = refutes.each n y at in
    let here = stays_at (goes x (set_of ps)) s.clauses y.clause step.clause step.named in
    let inside = slice_get_within s.clauses (number_before (gone_numbers x s ps) y.clause) step.clause here in
    let same : number_before u.clauses y.clause ≡ number_before (gone_numbers x s ps) y.clause = ap (λ ms. number_before ms y.clause) stands.clauses in
    let few = few_clauses s stands.state.within in
    omega (arith, inside, same, few)

-- the steps with their numbers turned back
pub slice_turns : (x : Slice) (u : Sliced) (s : StateView) (ps : List ℕ) (w : List WorldEntry) (r e : List RefStep) → Stands x u s ps → Refutes (sliced x s ps) w r
    → e ≡ map (numbered (number_before u.clauses)) r
    → TurnsBack (λ (e : List RefStep). e ≡ slice_turned x s ps r) (λ n. ⊥) s (sliced x s ps) w r (Ok e)
slice_turns x u s ps w r e stands refutes is =
    let turned : e ≡ slice_turned x s ps r = is ∙ ap (λ ms. map (numbered (number_before ms)) r) stands.clauses in (
      turned,
      λ n h. h,
      subst (λ (steps : List RefStep). RefutesBack s (sliced x s ps) w r steps) (sym turned)
          (refutes_renumbered s (sliced x s ps) w (number_before (gone_numbers x s ps)) (λ k c at. stays_at (goes x (set_of ps)) s.clauses k c at) refl r refutes),
    )

-- the greatest set is what `find` is to give
pub finds_slice : (x : Slice) (s : StateView) (found : Option (List ℕ)) → Greatest x s found → Finds (IsGreatest x) (CanGo x) (λ (ps : List ℕ). []) (IsSliced x) s found
finds_slice x s None h =
    record {
      no_choice = λ ps g.
          let some = HasLive-some s.preds ps g.legal.some g.legal.live in
          h (set_of ps) (record { live = λ p e. set_of-live s.preds ps p g.legal.live e; condition = g.legal.meets }) some.place some.in_set;
      nothing_left = h;
    }
finds_slice x s (Some ps) h = record { the_choice = h; may_be_taken = h.legal; can_be_named = refl }
