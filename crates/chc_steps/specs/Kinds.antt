-- The kinds of steps in their order, and what each step's own kind says of it.
use Rattle.std.specs.Prelude.{◌≡◌, ℕ, Bool, true, false, List, [], ◌∷◌}
use Rattle.chc_values.specs.declared.world.WorldEntry.{WorldEntry}
use Rattle.chc_terms.specs.declared.term.Term.{Term}
use Rattle.chc_state.specs.declared.defs.Defs.{Defs}
use Rattle.chc_state.specs.declared.refutation.RefStep.{RefStep}
use Rattle.chc_state.specs.declared.step.Step.{Step}
use Rattle.chc_state.specs.declared.step.Step.TheVariants as step
use Rattle.chc_state.specs.States.{StateView}
use Rattle.chc_state.specs.Passes.{IsNone}
use Rattle.pass_slice.specs.Slices.{Slice, CanGo, IsGreatest, IsSliced, sliced}
use Rattle.pass_slice.specs.Undos.{slice_back, slice_turned}
use Rattle.pass_slice.specs.Undos as slice
use Rattle.pass_slice.specs.Voids.{CanVoid, IsLeastVoid, HasNoVoid, VoidStands, without_clause, void_turned}
use Rattle.chc_steps.specs.declared.any.AnyUndo.{AnyUndo}
use Rattle.chc_steps.specs.declared.any.AnyUndo.TheVariants as undo

-- where the step may be taken
abbrev pub IsLegal : StateView → Step → Type 0
IsLegal s (step.Void k) = CanVoid s k
IsLegal s (step.Unreached ps) = CanGo Slice.forward s ps
IsLegal s (step.Unneeded ps) = CanGo Slice.backward s ps

-- the state after it
abbrev pub after : StateView → Step → StateView
after s (step.Void k) = without_clause s k
after s (step.Unreached ps) = sliced Slice.forward s ps
after s (step.Unneeded ps) = sliced Slice.backward s ps

-- the terms that it names
abbrev pub terms_of : Step → List Term
terms_of x = []

-- whether it makes the measure less
abbrev pub reduces : Step → Bool
reduces x = true

-- whether it may add a predicate
abbrev pub adds : Step → Bool
adds x = false

-- the undo is of this step from this state
abbrev pub StandsFor : AnyUndo → StateView → Step → Type 0
StandsFor (undo.Void u) s (step.Void k) = VoidStands u s k
StandsFor (undo.Unreached u) s (step.Unreached ps) = slice.Stands Slice.forward u s ps
StandsFor (undo.Unneeded u) s (step.Unneeded ps) = slice.Stands Slice.backward u s ps
StandsFor u s x = ⊥

-- the definitions before it, from those after it
abbrev pub back : StateView → Step → Defs → Defs
back s (step.Void k) d = d
back s (step.Unreached ps) d = slice_back Slice.forward s ps d
back s (step.Unneeded ps) d = slice_back Slice.backward s ps d

-- what the steps r of a refutation of the state after it become
abbrev pub IsTurned : StateView → Step → List WorldEntry → List RefStep → List RefStep → Type 0
IsTurned s (step.Void k) w r e = e ≡ void_turned k r
IsTurned s (step.Unreached ps) w r e = e ≡ slice_turned Slice.forward s ps r
IsTurned s (step.Unneeded ps) w r e = e ≡ slice_turned Slice.backward s ps r

-- for the refutation's step of number n a value is computed that isn't in range: not by the kinds that there are
abbrev pub Exceeds : StateView → Step → List WorldEntry → List RefStep → ℕ → Type 0
Exceeds s x w r n = ⊥

pub data Kind : Type 0 where
  void : Kind
  unreached : Kind
  unneeded : Kind

abbrev pub kind_of : Step → Kind
kind_of (step.Void k) = Kind.void
kind_of (step.Unreached ps) = Kind.unreached
kind_of (step.Unneeded ps) = Kind.unneeded

-- the kinds in their order up to one, the last one first
abbrev pub up_to_void : List Kind
up_to_void = Kind.void ∷ []

abbrev pub up_to_unreached : List Kind
up_to_unreached = Kind.unreached ∷ up_to_void

abbrev pub up_to_unneeded : List Kind
up_to_unneeded = Kind.unneeded ∷ up_to_unreached

abbrev pub kinds_before : Kind → List Kind
kinds_before Kind.void = []
kinds_before Kind.unreached = up_to_void
kinds_before Kind.unneeded = up_to_unreached

-- all kinds that are taken as long as they have a choice, the last one first
abbrev pub all_kinds : List Kind
all_kinds = up_to_unneeded

-- the step's own kind takes it
abbrev pub IsOwnChoice : StateView → Step → Type 0
IsOwnChoice s (step.Void k) = IsLeastVoid s k
IsOwnChoice s (step.Unreached ps) = IsGreatest Slice.forward s ps
IsOwnChoice s (step.Unneeded ps) = IsGreatest Slice.backward s ps

-- the kind has no choice in the state
abbrev pub IsDone : StateView → Kind → Type 0
IsDone s Kind.void = IsNone IsLeastVoid HasNoVoid s
IsDone s Kind.unreached = IsNone (IsGreatest Slice.forward) (IsSliced Slice.forward) s
IsDone s Kind.unneeded = IsNone (IsGreatest Slice.backward) (IsSliced Slice.backward) s

-- none of the kinds has a choice
abbrev pub AllDone : StateView → List Kind → Type 0
AllDone s [] = Unit {0}
AllDone s (k ∷ ks) = IsDone s k × AllDone s ks

-- the step that is taken first: its kind takes it, and no kind before that has a choice
pub record IsFirstStep (s : StateView) (x : Step) : Type 0 where
  pub own : IsOwnChoice s x
  pub least : AllDone s (kinds_before (kind_of x))

-- no kind has a choice
abbrev pub IsNormal : StateView → Type 0
IsNormal s = AllDone s all_kinds
