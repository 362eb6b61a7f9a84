-- Runs of steps of any kind, and the way back over them: `Choice` is what a step of the kind names, `after` the state
-- after a step.
use Rattle.std.specs.Prelude.{◌≡◌, ℕ, zero, suc, List, [], ◌∷◌, ◌++◌, take, Some, slice_get, Result, Ok, Err}
use Rattle.chc_values.specs.declared.world.WorldEntry.{WorldEntry}
use Rattle.chc_state.specs.declared.defs.Defs.{Defs}
use Rattle.chc_state.specs.declared.refutation.RefStep.{RefStep}
use Rattle.chc_state.specs.States.{StateView}
use Rattle.chc_state.specs.Meaning.{SameAnswer}
use Rattle.chc_state.specs.Back.{LeadsBack}
use Rattle.chc_state.specs.Passes.{RefutesBack, IsFirst}
use Rattle.chc_steps.specs.declared.refusal.ReplayErr.{ReplayErr}
use Rattle.chc_steps.specs.declared.refusal.ReplayErr.TheVariants as replay_err
use Rattle.chc_steps.specs.declared.refusal.RunBackErr.{RunBackErr}
use Rattle.chc_steps.specs.declared.refusal.RunBackErr.TheVariants as back_err

-- the list is longer by one element at the end, of which that holds
abbrev pub HasOneMore : {X : Type 0} → (X → Type 0) → List X → List X → Type 0
HasOneMore {X} holds old new = (x : X) × (new ≡ old ++ x ∷ []) × holds x

-- what a refused step of number k comes to; want of memory says nothing
abbrev pub IsStepRefusal : {Choice : Type 0} → (StateView → Choice → Type 0) → StateView → Choice → ℕ → ReplayErr → Type 0
IsStepRefusal may s c k (replay_err.NotLegal j) = (j ≡ k) × (may s c → ⊥)
IsStepRefusal may s c k replay_err.NoMemory = Unit {0}

module _ {Choice : Type 0} (after : StateView → Choice → StateView) where
  -- the state after all of the choices
  abbrev pub last : StateView → List Choice → StateView
  last s [] = s
  last s (c ∷ cs) = last (after s c) cs

  -- each choice may be taken where it stands, and the last state is z
  abbrev pub Goes : (StateView → Choice → Type 0) → StateView → List Choice → StateView → Type 0
  Goes may s [] z = s ≡ z
  Goes may s (c ∷ cs) z = may s c × Goes may (after s c) cs z

  -- the choice of number k is the first that may not be taken where it stands: those before it go to a state in which it
  -- may not
  pub record IsFirstRefused (may : StateView → Choice → Type 0) (s : StateView) (cs : List Choice) (k : ℕ) : Type 0 where
    pub before : StateView
    pub choice : Choice
    pub goes : Goes may s (take k cs) before
    pub named : slice_get cs k ≡ Some choice
    pub refused : may before choice → ⊥

  -- what a refused replay comes to; want of memory says nothing
  abbrev pub IsReplayRefusal : (StateView → Choice → Type 0) → StateView → List Choice → ReplayErr → Type 0
  IsReplayRefusal may s cs (replay_err.NotLegal k) = IsFirstRefused may s cs k
  IsReplayRefusal may s cs replay_err.NoMemory = Unit {0}

  -- what a step more from s gives: c may be taken, z is the state after it and answers as s does, and the undo u stands for it
  pub record IsTaken {Undo : Type 0} (may : StateView → Choice → Type 0) (stands : Undo → StateView → Choice → Type 0) (s : StateView) (c : Choice) (u : Undo) (z : StateView) : Type 0 where
    pub may_be_taken : may s c
    pub stands_for : stands u s c
    pub taken : z ≡ after s c
    pub answer : SameAnswer s z
    pub same_sig : z.sig ≡ s.sig

  -- the definitions before all of the choices, from those after them: the last choice's way back comes first
  abbrev pub back_over : (StateView → Choice → Defs → Defs) → StateView → List Choice → Defs → Defs
  back_over back s [] d = d
  back_over back s (c ∷ cs) d = back s c (back_over back (after s c) cs d)

  -- what the way back of definitions over the choices gives: definitions that define the live predicates of s, and make its
  -- clauses true wherever d makes those of the last state true
  pub record IsDefsBack (back : StateView → Choice → Defs → Defs) (s : StateView) (cs : List Choice) (d e : Defs) : Type 0 where
    pub value : e ≡ back_over back s cs d
    pub leads : LeadsBack s d e (last s cs)

  module _ {Undo : Type 0} (stands : Undo → StateView → Choice → Type 0) where
    -- as many undos as choices, and each stands for its choice where that stands
    abbrev pub Stand : List Undo → StateView → List Choice → Type 0
    Stand [] s [] = Unit {0}
    Stand [] s (c ∷ cs) = ⊥
    Stand (u ∷ us) s [] = ⊥
    Stand (u ∷ us) s (c ∷ cs) = stands u s c × Stand us (after s c) cs

    -- a run from s to z: each choice may be taken where it stands, and the undos stand for them. False is derived from z
    -- exactly where it is from s, in every world, and the signature is the same
    pub record IsRun (may : StateView → Choice → Type 0) (s : StateView) (cs : List Choice) (us : List Undo) (z : StateView) : Type 0 where
      pub goes : Goes may s cs z
      pub stand : Stand us s cs
      pub answer : SameAnswer s z
      pub same_sig : z.sig ≡ s.sig

  -- what a step turns the steps of a refutation into, and for which of them a value is computed that isn't in range
  module _
      (turned : StateView → Choice → List WorldEntry → List RefStep → List RefStep → Type 0)
      (exceeds : StateView → Choice → List WorldEntry → List RefStep → ℕ → Type 0)
      (w : List WorldEntry) (r : List RefStep) where
    -- the choices, the last one first, turn the steps r into e, and every computed value is in range
    abbrev pub TurnedOver : StateView → List Choice → List RefStep → Type 0
    TurnedOver s [] e = r ≡ e
    TurnedOver s (c ∷ cs) e = (m : List RefStep) × TurnedOver (after s c) cs m × turned s c w m e × ((n : ℕ) → exceeds s c w m n → ⊥)

    -- from the last choice on, that of number k is the first for which a value is computed that isn't in range, and n is
    -- the first such step of the list handed to it
    abbrev pub ExceedsOver : StateView → List Choice → ℕ → ℕ → Type 0
    ExceedsOver s [] k n = ⊥
    ExceedsOver s (c ∷ cs) zero n = (m : List RefStep) × TurnedOver (after s c) cs m × IsFirst (exceeds s c w m) n
    ExceedsOver s (c ∷ cs) (suc k) n = ExceedsOver (after s c) cs k n

    -- what the way back of the steps over the choices answers. Memory may always be refused
    abbrev pub TurnsOver : StateView → List Choice → Result (List RefStep) RunBackErr → Type 0
    TurnsOver s cs (Ok e) = TurnedOver s cs e × RefutesBack s (last s cs) w r e
    TurnsOver s cs (Err (back_err.OutOfRange k n)) = ExceedsOver s cs k n
    TurnsOver s cs (Err back_err.NoMemory) = Unit {0}
