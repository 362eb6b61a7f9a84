-- Refutations: derivations of false, step by step.
use Rattle.std.specs.Prelude.{◌≡◌, ◌≢◌, ◌↔◌, ◌+◌, Bool, true, cond, nat_lt, ℕ, List, [], ◌∷◌, length, sum_by, take, Option, Some, None, slice_get}
use Rattle.chc_sorts.specs.Signature.{Signature}
use Rattle.chc_values.specs.declared.value.Value.{Value}
use Rattle.chc_values.specs.declared.value.Value.TheVariants as value
use Rattle.chc_values.specs.declared.world.WorldEntry.{WorldEntry}
use Rattle.chc_values.specs.Values.{AreOf}
use Rattle.chc_terms.specs.Has.{TermHas, AllHave}
use Rattle.chc_state.specs.declared.clause.Atom.{Atom}
use Rattle.chc_state.specs.declared.clause.Clause.{Clause}
use Rattle.chc_state.specs.declared.refutation.RefStep.{RefStep}
use Rattle.chc_state.specs.States.{StateView}
use Rattle.chc_state.specs.Meaning.{ArgsHave}

module _ (sig : Signature) (w : List WorldEntry) (cs : List Clause) where
  -- the step concludes the predicate p on the values us: so its clause's head says on the step's values
  pub record Concludes (x : RefStep) (p : ℕ) (us : List Value) : Type 0 where
    pub clause : Clause
    pub head : Atom
    pub named : slice_get cs x.clause ≡ Some clause
    pub concludes : clause.head ≡ Some head
    pub on : head.pred ≡ p
    pub gives : ArgsHave sig w head x.values us

  -- the step of that number is among the earlier ones, and concludes the atom on the values that its arguments have
  pub record IsPremise (earlier : List RefStep) (env : List Value) (a : Atom) (q : ℕ) : Type 0 where
    pub step : RefStep
    pub us : List Value
    pub stands : slice_get earlier q ≡ Some step
    pub has : ArgsHave sig w a env us
    pub concludes : Concludes step a.pred us

  -- as many numbers as atoms, each that of a premise of the atom at its place
  abbrev pub ArePremises : List RefStep → List Value → List Atom → List ℕ → Type 0
  ArePremises earlier env [] [] = Unit {0}
  ArePremises earlier env [] (q ∷ qs) = ⊥
  ArePremises earlier env (a ∷ atoms) [] = ⊥
  ArePremises earlier env (a ∷ atoms) (q ∷ qs) = IsPremise earlier env a q × ArePremises earlier env atoms qs

  -- the step is right after the earlier ones: it names a clause, its values are of the variables' sorts and make all
  -- conjuncts true, and earlier steps conclude the body atoms
  pub record StepHolds (earlier : List RefStep) (x : RefStep) : Type 0 where
    pub clause : Clause
    pub named : slice_get cs x.clause ≡ Some clause
    pub sorted : AreOf sig x.values clause.vars
    pub truths : AllHave (TermHas sig w) clause.conj x.values (value.Bool true)
    pub premises : ArePremises earlier x.values clause.body x.premises

-- the step's clause is a query
abbrev pub IsOfQuery : List Clause → RefStep → Type 0
IsOfQuery cs x = (c : Clause) × (slice_get cs x.clause ≡ Some c) × (c.head ≡ None)

-- in the world w, the steps refute the state: each is right after those before it, and the last, and no other, is a query's
pub record Refutes (s : StateView) (w : List WorldEntry) (steps : List RefStep) : Type 0 where
  pub some : steps ≢ []
  pub each : (n : ℕ) (x : RefStep) → slice_get steps n ≡ Some x → StepHolds s.sig w s.clauses (take n steps) x
  pub query : (n : ℕ) (x : RefStep) → slice_get steps n ≡ Some x → IsOfQuery s.clauses x ↔ (n + 1 ≡ length steps)

-- the weight of the clause of that number, and 0 where there is none
abbrev pub weight_at : Option Clause → ℕ
weight_at None = 0
weight_at (Some c) = c.weight

-- the sum of the weights of the clauses that the steps name
abbrev pub weight_of : List Clause → List RefStep → ℕ
weight_of cs steps = sum_by (λ (x : RefStep). weight_at (slice_get cs x.clause)) steps

-- the step on the clause whose number f gives of its own
abbrev pub numbered : (ℕ → ℕ) → RefStep → RefStep
numbered f x = record { clause = f x.clause; values = x.values; premises = x.premises }

-- the numbers of those that pass the test, the first of the list having the number n
abbrev pub numbers_where : {X : Type 0} → (X → Bool) → ℕ → List X → List ℕ
numbers_where test n [] = []
numbers_where test n (x ∷ xs) = cond (test x) (n ∷ numbers_where test (n + 1) xs) (numbers_where test (n + 1) xs)

-- the number that a clause had before those of the given numbers, ascending, went, where it has the number k without them
abbrev pub number_before : List ℕ → ℕ → ℕ
number_before [] k = k
number_before (m ∷ ms) k = cond (nat_lt k m) k (number_before ms (k + 1))
