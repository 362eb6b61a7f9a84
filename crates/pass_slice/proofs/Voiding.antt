-- Steps that remove a clause which concludes nothing new: what holds after one, and the way back over one.
use Rattle.std.proofs.Common.{◌≡◌, ◌⊎◌, ◌↔◌, ◌<◌, ◌≤◌, ◌^◌, ℕ, zero, suc, ◌+◌, Bool, true, false, List, [], ◌∷◌, length, map, Option, Some, None, Ok, MatchOption, inl, inr, refl, sym, ap, ◌∙◌, subst, arith}
use Rattle.std.specs.Prelude.{slice_get, remove, nat_lt}
use Rattle.std.specs.List.{list_all}
use Rattle.std.proofs.lemmas.Bool.{and_parts, and_from, cases_lt, lt-ltb, le-ltb, false≢true}
use Rattle.std.proofs.lemmas.Option.{none-some, slice_get_within}
use Rattle.chc_values.specs.declared.world.WorldEntry.{WorldEntry}
use Rattle.chc_values.specs.Worlds.{IsWorld}
use Rattle.chc_state.specs.declared.clause.Clause.{Clause}
use Rattle.chc_state.specs.declared.clause.PredDecl.{PredDecl}
use Rattle.chc_state.specs.declared.defs.Defs.{Defs}
use Rattle.chc_state.specs.declared.refutation.RefStep.{RefStep}
use Rattle.chc_state.specs.States.{StateView, clause_uses_live, uses_live}
use Rattle.chc_state.specs.Sorts.{positions, positions_fit, is_sorted_clause}
use Rattle.chc_state.specs.WellFormed.{is_well_formed, are_well_formed}
use Rattle.chc_state.specs.Limits.{first_passed}
use Rattle.chc_state.specs.Definitions.{Says, Defines}
use Rattle.chc_state.specs.Back.{LeadsBack}
use Rattle.chc_state.specs.Refuting.{Refutes, number_before, numbered}
use Rattle.chc_state.specs.Passes.{IsState, Finds, Applies, RefutesBack, TurnsBack}
use Rattle.chc_state.proofs.Forming.{formed_sorted}
use Rattle.chc_state.proofs.Members.{all-at, all-from}
use Rattle.chc_state.proofs.Modelled.{modelled}
use Rattle.chc_state.proofs.Places.{one_element}
use Rattle.chc_state.proofs.Transfers.{Transfer, transferred, fewer}
use Rattle.chc_state.proofs.Turning.{refutes_renumbered}
use Rattle.pass_slice.specs.Voids.{IsVoid, without_clause, CanVoid, IsLeastVoid, HasNoVoid, VoidStands, void_turned, has_room}
use Rattle.pass_slice.proofs.Room.{length_removed, void_room}
use Rattle.pass_slice.proofs.Undoing.{few_clauses}
use Rattle.pass_slice.proofs.Voided.{In-removed, voided}

-- the clauses that are left pass what all passed
all_removed : (test : Clause → Bool) (cs : List Clause) (k : ℕ) → list_all test cs ≡ true → list_all test (remove cs k) ≡ true
all_removed test cs k h = all-from test (remove cs k) (λ c i. all-at test c cs h (In-removed cs k c i))

pub uses_live-void : (preds : List PredDecl) (cs : List Clause) (k : ℕ) → uses_live preds cs ≡ true → uses_live preds (remove cs k) ≡ true
uses_live-void preds cs k h = all_removed (clause_uses_live preds) cs k h

pub formed-void : (s : StateView) (k : ℕ) → are_well_formed s.sig s.preds s.clauses ≡ true → are_well_formed s.sig s.preds (remove s.clauses k) ≡ true
formed-void s k h =
    let b = and_parts (positions_fit s.sig s.preds) (list_all (is_well_formed s.sig (positions s.preds)) s.clauses) h in
    and_from (positions_fit s.sig s.preds) (list_all (is_well_formed s.sig (positions s.preds)) (remove s.clauses k)) b.0
    (all_removed (is_well_formed s.sig (positions s.preds)) s.clauses k b.1)

-- whether the clause of that number may be removed
pub can_void_is : (s : StateView) (k : ℕ) (c : Clause) → slice_get s.clauses k ≡ Some c → first_passed s.preds s.clauses ≡ None → IsVoid c → (has_room s.preds s.clauses c ≡ true) ↔ CanVoid s k
can_void_is s k c at within void =
    let r = void_room s.preds s.clauses k c at void within in (
      λ room. record { clause = c; named = at; void = void; within = r.0 room },
      λ can. r.1 can.within,
    )

-- the test of a clause tells whether it may be removed
pub can_void_from : (s : StateView) (k : ℕ) (c : Clause) (b : Bool) → slice_get s.clauses k ≡ Some c → first_passed s.preds s.clauses ≡ None
    → ((b ≡ true) ↔ (IsVoid c × (has_room s.preds s.clauses c ≡ true))) → (b ≡ true) ↔ CanVoid s k
can_void_from s k c b at within tells = (
  λ e. let h = tells.0 e in (can_void_is s k c at within h.0).0 h.1,
  λ can.
      let void : IsVoid c = subst IsVoid (one_element can.clause c can.named at) can.void in
      tells.1 (void, (can_void_is s k c at within void).1 can),
)

pub no_clause : (s : StateView) (k : ℕ) → slice_get s.clauses k ≡ None → (false ≡ true) ↔ CanVoid s k
no_clause s k none = (λ e. absurd (false≢true e), λ can. absurd (none-some can.clause (sym none ∙ can.named)))

-- looking for the least: one number more, and all numbers
pub none_up_to : (s : StateView) (k : ℕ) → ((j : ℕ) → j < k → CanVoid s j → ⊥) → (CanVoid s k → ⊥) → (j : ℕ) → j < k + 1 → CanVoid s j → ⊥
none_up_to s k before here j below can = elim (cases_lt j k) [
  | inl less ↦ before j less can
  | inr past ↦ let same : j ≡ k = omega (arith, below, past) in here (subst (CanVoid s) same can)
]

pub none_at_all : (s : StateView) (k : ℕ) → length s.clauses ≤ k → ((j : ℕ) → j < k → CanVoid s j → ⊥) → (j : ℕ) → CanVoid s j → ⊥
none_at_all s k all before j can = let inside = slice_get_within s.clauses j can.clause can.named in before j (omega (arith, inside, all)) can

module _ (s : StateView) (k : ℕ) (state : IsState s) (can : CanVoid s k) where
  sorted : (positions_fit s.sig s.preds ≡ true) × (list_all (is_sorted_clause s.sig (positions s.preds)) s.clauses ≡ true)
  sorted = and_parts (positions_fit s.sig s.preds) (list_all (is_sorted_clause s.sig (positions s.preds)) s.clauses) (formed_sorted s.sig s.preds s.clauses state.formed)

  transfer : (w : List WorldEntry) → IsWorld s.sig w → Transfer s.sig w s.clauses (remove s.clauses k) (λ J. J)
  transfer w world = voided s.sig w (positions s.preds) s.clauses world sorted.1 k can.clause can.named can.void

  shorter : length (remove s.clauses k) < length s.clauses
  shorter = let l = length_removed s.clauses k can.clause can.named in omega (arith, l)

  pub void_applies : Applies without_clause (λ j. true) (λ j. false) s k (without_clause s k)
  void_applies =
      record {
        taken = refl;
        answer = λ w world. (
          transferred s.sig w s.clauses (remove s.clauses k) (λ J. J) (transfer w world),
          transferred s.sig w (remove s.clauses k) s.clauses (λ J. J) (fewer s.sig w s.clauses (remove s.clauses k) (In-removed s.clauses k)),
        );
        same_sig = refl;
        as_many = λ adds. refl;
        one_more = omega arith;
        falls = λ reduces. inr (refl, inl shorter);
      }

  pub void_leads : (d : Defs) → Defines d (without_clause s k) → LeadsBack s d d (without_clause s k)
  void_leads d defines =
      record {
        defines = record { entries = defines.entries; each = defines.each; apart = defines.apart; definitions = defines.definitions };
        keeps = λ w world holds. record {
          holds = modelled s.sig w world state.founded (positions s.preds) (positions s.preds) s.clauses (remove s.clauses k) (λ J. J) (transfer w world)
              sorted.1 (all_removed (is_sorted_clause s.sig (positions s.preds)) s.clauses k sorted.1) (Says s.sig w d) holds.holds;
        };
      }

-- a clause that stays has the number before that the number of the one that went tells
pub removed_at : {X : Type 0} (xs : List X) (k j : ℕ) (x : X) → slice_get (remove xs k) j ≡ Some x → slice_get xs (number_before (k ∷ []) j) ≡ Some x
removed_at [] zero j x e = absurd (none-some x e)
removed_at [] (suc k) j x e = absurd (none-some x e)
removed_at (y ∷ xs) zero j x e = let past : nat_lt j 0 ≡ false = le-ltb j 0 (omega arith) in let next : j + 1 ≡ suc j = omega arith in rw past (rw next e)
removed_at (y ∷ xs) (suc k) zero x e = let below : nat_lt 0 (suc k) ≡ true = lt-ltb 0 (suc k) (omega arith) in rw below e
removed_at (y ∷ xs) (suc k) (suc j) x e = by_place (cases_lt j k) (removed_at xs k j x e)
  where
    by_place : (j < k) ⊎ (k ≤ j) → slice_get xs (number_before (k ∷ []) j) ≡ Some x → slice_get (y ∷ xs) (number_before (suc k ∷ []) (suc j)) ≡ Some x
    by_place (inl below) h =
        let small : nat_lt j k ≡ true = lt-ltb j k below in
        let large : nat_lt (suc j) (suc k) ≡ true = lt-ltb (suc j) (suc k) (omega (arith, below)) in
        let here : slice_get xs j ≡ Some x = rw small at h in
        rw large here
    by_place (inr past) h =
        let small : nat_lt j k ≡ false = le-ltb j k past in
        let large : nat_lt (suc j) (suc k) ≡ false = le-ltb (suc j) (suc k) (omega (arith, past)) in
        let here : slice_get xs (j + 1) ≡ Some x = rw small at h in
        let next : suc j + 1 ≡ suc (j + 1) = omega arith in
        rw large (rw next here)

pub void_number_fits : (u : ℕ) (s : StateView) (k : ℕ) (w : List WorldEntry) (r : List RefStep) → VoidStands u s k → Refutes (without_clause s k) w r
    → (n : ℕ) (y : RefStep) → slice_get r n ≡ Some y → number_before (u ∷ []) y.clause < 2 ^ 32
void_number_fits u s k w r stands refutes n y at =
    let step = refutes.each n y at in
    let here = removed_at s.clauses k y.clause step.clause step.named in
    let inside = slice_get_within s.clauses (number_before (k ∷ []) y.clause) step.clause here in
    let same : number_before (u ∷ []) y.clause ≡ number_before (k ∷ []) y.clause = ap (λ m. number_before (m ∷ []) y.clause) stands.number in
    let few = few_clauses s stands.state.within in
    omega (arith, inside, same, few)

pub void_turns : (u : ℕ) (s : StateView) (k : ℕ) (w : List WorldEntry) (r e : List RefStep) → VoidStands u s k → Refutes (without_clause s k) w r
    → e ≡ map (numbered (number_before (u ∷ []))) r
    → TurnsBack (λ (e : List RefStep). e ≡ void_turned k r) (λ n. ⊥) s (without_clause s k) w r (Ok e)
void_turns u s k w r e stands refutes is =
    let turned : e ≡ void_turned k r = is ∙ ap (λ m. void_turned m r) stands.number in (
      turned,
      λ n h. h,
      subst (λ (steps : List RefStep). RefutesBack s (without_clause s k) w r steps) (sym turned)
          (refutes_renumbered s (without_clause s k) w (number_before (k ∷ [])) (λ j c at. removed_at s.clauses k j c at) refl r refutes),
    )

-- the least void clause is what `find` is to give
pub finds_void : (s : StateView) (found : Option ℕ) → MatchOption found (HasNoVoid s) (IsLeastVoid s) → Finds IsLeastVoid CanVoid (λ (k : ℕ). []) HasNoVoid s found
finds_void s None h = record { no_choice = λ k least. h k least.legal; nothing_left = h }
finds_void s (Some k) h = record { the_choice = h; may_be_taken = h.legal; can_be_named = refl }
