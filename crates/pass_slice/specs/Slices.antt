-- Slices: steps that remove whole predicates. One kind removes forward what no derivation reaches, another backward what no
-- query needs.
use Rattle.std.specs.Prelude.{◌≡◌, ◌≢◌, ℕ, Bool, true, false, not, ◌||◌, IsTrue, List, [], filter, Option, Some, None}
use Rattle.std.specs.List.{list_any, list_all}
use Rattle.chc_state.specs.declared.clause.Atom.{Atom}
use Rattle.chc_state.specs.declared.clause.Clause.{Clause}
use Rattle.chc_state.specs.States.{StateView, is_live, head_any}
use Rattle.chc_state.specs.Limits.{first_passed}
use Rattle.chc_state.specs.PredSets.{PredSet, set_of, is_ascending, retired}

pub data Slice : Type 0 where
  forward : Slice
  backward : Slice

-- whether some body atom is on a predicate of the set
abbrev pub body_meets : PredSet → Clause → Bool
body_meets set c = list_any (λ (a : Atom). set a.pred) c.body

-- whether the head is on a predicate of the set
abbrev pub head_meets : PredSet → Clause → Bool
head_meets set c = head_any (λ (a : Atom). set a.pred) c.head

-- every clause with its head in the set has a body atom in it
abbrev pub is_unreached : List Clause → PredSet → Bool
is_unreached cs set = list_all (λ c. not (head_meets set c) || body_meets set c) cs

-- no query, and no clause with its head outside the set, has a body atom in it
abbrev pub is_unneeded : List Clause → PredSet → Bool
is_unneeded cs set = list_all (λ c. head_meets set c || not (body_meets set c)) cs

-- the kind's condition on the set that it removes
abbrev pub condition : Slice → List Clause → PredSet → Bool
condition Slice.forward = is_unreached
condition Slice.backward = is_unneeded

-- whether the clause goes with the set: forward, where it needs a predicate of the set; backward, where it concludes one
abbrev pub goes : Slice → PredSet → Clause → Bool
goes Slice.forward = body_meets
goes Slice.backward = head_meets

-- what the predicates that went are on all values, on the way back
abbrev pub truth : Slice → Bool
truth Slice.forward = false
truth Slice.backward = true

-- the state without the clauses that pass the test, the predicates of the set no longer live
abbrev pub without : PredSet → (Clause → Bool) → StateView → StateView
without set gone s = record { sig = s.sig; preds = retired set 0 s.preds; clauses = filter (λ c. not (gone c)) s.clauses }

-- the state after the slice
abbrev pub sliced : Slice → StateView → List ℕ → StateView
sliced x s ps = without (set_of ps) (goes x (set_of ps)) s

-- these predicates may be removed
pub record CanGo (x : Slice) (s : StateView) (ps : List ℕ) : Type 0 where
  pub some : ps ≢ []
  pub ascending : IsTrue (is_ascending ps)
  pub live : IsTrue (list_all (is_live s.preds) ps)
  pub meets : IsTrue (condition x s.clauses (set_of ps))
  pub within : first_passed (sliced x s ps).preds (sliced x s ps).clauses ≡ None

-- the set is of live predicates and meets the condition
pub record Meets (holds : List Clause → PredSet → Bool) (s : StateView) (set : PredSet) : Type 0 where
  pub live : (p : ℕ) → IsTrue (set p) → IsTrue (is_live s.preds p)
  pub condition : IsTrue (holds s.clauses set)

-- the predicates may be removed, and every set that meets the condition is within them
pub record IsGreatest (x : Slice) (s : StateView) (ps : List ℕ) : Type 0 where
  pub legal : CanGo x s ps
  pub greatest : (set : PredSet) → Meets (condition x) s set → (p : ℕ) → IsTrue (set p) → IsTrue (set_of ps p)

-- no set with a member meets the condition
abbrev pub IsSliced : Slice → StateView → Type 0
IsSliced x s = (set : PredSet) → Meets (condition x) s set → (p : ℕ) → IsTrue (set p) → ⊥

-- the greatest set that meets the condition, where it isn't empty
abbrev pub Greatest : Slice → StateView → Option (List ℕ) → Type 0
Greatest x s None = IsSliced x s
Greatest x s (Some ps) = IsGreatest x s ps
