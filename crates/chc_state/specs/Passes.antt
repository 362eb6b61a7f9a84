-- What each call of a kind of steps gives, whatever the kind: `Choice` is what a step of the kind names.
use Rattle.std.specs.Prelude.{◌≡◌, ◌≢◌, ◌≤◌, ◌<◌, ◌+◌, ◌^◌, ⊤, ℕ, Bool, true, false, ◌&&◌, IsTrue, nat_lt, List, length, Option, Some, None, Result, Ok, Err}
use Rattle.std.specs.List.{list_all}
use Rattle.chc_sorts.specs.WellFounded.{IsWellFounded}
use Rattle.chc_values.specs.declared.world.WorldEntry.{WorldEntry}
use Rattle.chc_terms.specs.declared.term.Term.{Term}
use Rattle.chc_terms.specs.Counts.{depth}
use Rattle.chc_terms.specs.Numbers.{numbers_fit}
use Rattle.chc_terms.specs.ValueTerms.{is_value_term}
use Rattle.chc_state.specs.declared.refutation.RefStep.{RefStep}
use Rattle.chc_state.specs.declared.refutation.BackErr.{BackErr}
use Rattle.chc_state.specs.declared.refutation.BackErr.TheVariants as refusal
use Rattle.chc_state.specs.States.{StateView, uses_live}
use Rattle.chc_state.specs.Limits.{first_passed}
use Rattle.chc_state.specs.WellFormed.{are_well_formed}
use Rattle.chc_state.specs.Meaning.{SameAnswer}
use Rattle.chc_state.specs.Measure.{measure, IsLess}
use Rattle.chc_state.specs.Refuting.{Refutes, weight_of}

-- what the type of states keeps
pub record IsState (s : StateView) : Type 0 where
  pub few : length s.preds < 2 ^ 32
  pub founded : IsWellFounded s.sig
  pub live : IsTrue (uses_live s.preds s.clauses)
  pub within : first_passed s.preds s.clauses ≡ None
  pub formed : IsTrue (are_well_formed s.sig s.preds s.clauses)

-- whether the term can be named by a step: a value term at most 900 deep, with its numbers in range
abbrev pub is_constant : Term → Bool
is_constant t = is_value_term t && nat_lt (depth t) 901 && numbers_fit t

-- the choice that is found: it is the kind's, it may be taken, and its terms can be named
pub record IsFound {Choice : Type 0} (chosen legal : StateView → Choice → Type 0) (terms : Choice → List Term) (s : StateView) (c : Choice) : Type 0 where
  pub the_choice : chosen s c
  pub may_be_taken : legal s c
  pub can_be_named : IsTrue (list_all is_constant (terms c))

-- the kind has no choice, and nothing is left for it to do
pub record IsNone {Choice : Type 0} (chosen : StateView → Choice → Type 0) (settled : StateView → Type 0) (s : StateView) : Type 0 where
  pub no_choice : (c : Choice) → chosen s c → ⊥
  pub nothing_left : settled s

-- what `find` gives
abbrev pub Finds : {Choice : Type 0} → (StateView → Choice → Type 0) → (StateView → Choice → Type 0) → (Choice → List Term) → (StateView → Type 0) → StateView → Option Choice → Type 0
Finds chosen legal terms settled s None = IsNone chosen settled s
Finds chosen legal terms settled s (Some c) = IsFound chosen legal terms s c

-- what `apply` gives: the state z after the step on c. It answers as s does, has the signature of s and as many predicates,
-- live or not, or one more where the kind adds one; where the kind reduces, its measure is less
pub record Applies {Choice : Type 0} (after : StateView → Choice → StateView) (reduces adds : Choice → Bool) (s : StateView) (c : Choice) (z : StateView) : Type 0 where
  pub taken : z ≡ after s c
  pub answer : SameAnswer s z
  pub same_sig : z.sig ≡ s.sig
  pub as_many : adds c ≡ false → length z.preds ≡ length s.preds
  pub one_more : length z.preds ≤ length s.preds + 1
  pub falls : reduces c ≡ true → IsLess (measure z) (measure s)

-- what the way back of refutations gives: steps that refute s, of no more weight there than the others have in z
pub record RefutesBack (s z : StateView) (w : List WorldEntry) (r e : List RefStep) : Type 0 where
  pub refutes : Refutes s w e
  pub weight : weight_of s.clauses e ≤ weight_of z.clauses r

-- n is the least number of which that holds
pub record IsFirst (holds : ℕ → Type 0) (n : ℕ) : Type 0 where
  pub here : holds n
  pub none_before : (m : ℕ) → m < n → holds m → ⊥

-- what `back_steps` answers, where `turned` says what the steps become, and `exceeds` for which of them a value is computed
-- that isn't in range: the steps where there is none, and else the first. Memory may always be refused
abbrev pub TurnsBack : (List RefStep → Type 0) → (ℕ → Type 0) → StateView → StateView → List WorldEntry → List RefStep → Result (List RefStep) BackErr → Type 0
TurnsBack turned exceeds s z w r (Ok e) = turned e × ((n : ℕ) → exceeds n → ⊥) × RefutesBack s z w r e
TurnsBack turned exceeds s z w r (Err (refusal.OutOfRange n)) = IsFirst exceeds n
TurnsBack turned exceeds s z w r (Err refusal.NoMemory) = Unit {0}
