-- What holds of every run of steps of all kinds.
use Rattle.std.specs.Prelude.{◌≡◌, ℕ, List}
use Rattle.chc_values.specs.declared.world.WorldEntry.{WorldEntry}
use Rattle.chc_state.specs.declared.refutation.RefStep.{RefStep}
use Rattle.chc_state.specs.declared.step.Step.{Step}
use Rattle.chc_state.specs.States.{StateView}
use Rattle.chc_steps.specs.Kinds.{IsLegal, after, IsTurned, Exceeds}
use Rattle.chc_steps.specs.Runs.{last, Goes, IsFirstRefused, TurnedOver, ExceedsOver}

-- legal steps lead from a state to one state alone
abbrev pub LastStateIsOne : Type 0
LastStateIsOne = (s z : StateView) (xs : List Step) → Goes after IsLegal s xs z → z ≡ last after s xs

-- where all steps are legal, none is the first that isn't
abbrev pub NoLegalStepIsRefused : Type 0
NoLegalStepIsRefused = (s z : StateView) (xs : List Step) (k : ℕ) → Goes after IsLegal s xs z → IsFirstRefused after IsLegal s xs k → ⊥

-- the way back turns the steps of a refutation into one list alone
abbrev pub WayBackIsOne : Type 0
WayBackIsOne = (s : StateView) (xs : List Step) (w : List WorldEntry) (r d e : List RefStep)
    → TurnedOver after IsTurned Exceeds w r s xs d → TurnedOver after IsTurned Exceeds w r s xs e → d ≡ e

-- where the way back turns the steps of a refutation, every computed value is in range
abbrev pub NotBoth : Type 0
NotBoth = (s : StateView) (xs : List Step) (w : List WorldEntry) (r e : List RefStep) (k n : ℕ)
    → TurnedOver after IsTurned Exceeds w r s xs e → ExceedsOver after IsTurned Exceeds w r s xs k n → ⊥
