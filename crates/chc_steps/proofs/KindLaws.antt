-- Steps by kind: what an undo stands for, and states in which no kind has a choice.
use Rattle.std.proofs.Common.{◌≡◌, ℕ, true, false, List, sym, ◌∙◌}
use Rattle.chc_values.specs.declared.world.WorldEntry.{WorldEntry}
use Rattle.chc_state.specs.declared.refutation.RefStep.{RefStep}
use Rattle.chc_state.specs.declared.step.Step.{Step}
use Rattle.chc_state.specs.declared.step.Step.TheVariants as step
use Rattle.chc_state.specs.States.{StateView}
use Rattle.chc_state.specs.Passes.{Applies}
use Rattle.pass_slice.specs.declared.sliced.Sliced.{Sliced}
use Rattle.pass_slice.specs.Slices.{Slice, sliced}
use Rattle.pass_slice.specs.Undos as slice
use Rattle.pass_slice.specs.Voids.{VoidStands, without_clause}
use Rattle.chc_steps.specs.declared.any.AnyUndo.TheVariants as undo
use Rattle.chc_steps.specs.Kinds.{after, reduces, adds, StandsFor, IsTurned, AllDone, all_kinds, IsFirstStep}

-- a state in which no kind has a choice has no first step
pub none_first : (s : StateView) → AllDone s all_kinds → (x : Step) → IsFirstStep s x → ⊥
none_first s done (step.Void k) f = done.1.1.0.no_choice k f.own
none_first s done (step.Unreached ps) f = done.1.0.no_choice ps f.own
none_first s done (step.Unneeded ps) f = done.0.no_choice ps f.own

-- an undo stands for steps of its kind alone
module _ (P : StateView → Step → Type 0) (s : StateView) where
  pub void_alone : (u : ℕ) (x : Step) → StandsFor (undo.Void u) s x → P s x → (k : ℕ) × VoidStands u s k × P s (step.Void k)
  void_alone u (step.Void k) st p = (k, st, p)
  void_alone u x st p = absurd st

  pub unreached_alone : (u : Sliced) (x : Step) → StandsFor (undo.Unreached u) s x → P s x → (ps : List ℕ) × slice.Stands Slice.forward u s ps × P s (step.Unreached ps)
  unreached_alone u (step.Unreached ps) st p = (ps, st, p)
  unreached_alone u x st p = absurd st

  pub unneeded_alone : (u : Sliced) (x : Step) → StandsFor (undo.Unneeded u) s x → P s x → (ps : List ℕ) × slice.Stands Slice.backward u s ps × P s (step.Unneeded ps)
  unneeded_alone u (step.Unneeded ps) st p = (ps, st, p)
  unneeded_alone u x st p = absurd st

  pub each_void : (u : ℕ) → ((k : ℕ) → VoidStands u s k → P s (step.Void k)) → (x : Step) → StandsFor (undo.Void u) s x → P s x
  each_void u h (step.Void k) st = h k st
  each_void u h x st = absurd st

  pub each_unreached : (u : Sliced) → ((ps : List ℕ) → slice.Stands Slice.forward u s ps → P s (step.Unreached ps)) → (x : Step) → StandsFor (undo.Unreached u) s x → P s x
  each_unreached u h (step.Unreached ps) st = h ps st
  each_unreached u h x st = absurd st

  pub each_unneeded : (u : Sliced) → ((ps : List ℕ) → slice.Stands Slice.backward u s ps → P s (step.Unneeded ps)) → (x : Step) → StandsFor (undo.Unneeded u) s x → P s x
  each_unneeded u h (step.Unneeded ps) st = h ps st
  each_unneeded u h x st = absurd st

-- a step turns steps into one list alone
pub one_turned : (s : StateView) (x : Step) (w : List WorldEntry) (r d e : List RefStep) → IsTurned s x w r d → IsTurned s x w r e → d ≡ e
one_turned s (step.Void k) w r d e p q = p ∙ sym q
one_turned s (step.Unreached ps) w r d e p q = p ∙ sym q
one_turned s (step.Unneeded ps) w r d e p q = p ∙ sym q

-- what a kind's step gives is what the step of that kind gives among all
pub void_applied : (s : StateView) (k : ℕ) (z : StateView) → Applies without_clause (λ j. true) (λ j. false) s k z → Applies after reduces adds s (step.Void k) z
void_applied s k z a = record { taken = a.taken; answer = a.answer; same_sig = a.same_sig; as_many = a.as_many; one_more = a.one_more; falls = a.falls }

pub unreached_applied : (s : StateView) (ps : List ℕ) (z : StateView) → Applies (sliced Slice.forward) (λ (qs : List ℕ). true) (λ (qs : List ℕ). false) s ps z → Applies after reduces adds s (step.Unreached ps) z
unreached_applied s ps z a = record { taken = a.taken; answer = a.answer; same_sig = a.same_sig; as_many = a.as_many; one_more = a.one_more; falls = a.falls }

pub unneeded_applied : (s : StateView) (ps : List ℕ) (z : StateView) → Applies (sliced Slice.backward) (λ (qs : List ℕ). true) (λ (qs : List ℕ). false) s ps z → Applies after reduces adds s (step.Unneeded ps) z
unneeded_applied s ps z a = record { taken = a.taken; answer = a.answer; same_sig = a.same_sig; as_many = a.as_many; one_more = a.one_more; falls = a.falls }
