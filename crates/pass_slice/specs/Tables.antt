-- Sets of predicates as tables: a place for each number.
use Rattle.std.specs.Prelude.{◌≡◌, ℕ, ◌+◌, ◌<◌, Bool, true, false, cond, IsTrue, List, [], ◌∷◌, Option, Some, None, length, nat_eq, slice_get, slice_set, slice_index_or}
use Rattle.std.specs.List.{list_any}
use Rattle.chc_state.specs.declared.clause.Atom.{Atom}
use Rattle.chc_state.specs.declared.clause.Clause.{Clause}
use Rattle.chc_state.specs.States.{StateView, is_live}
use Rattle.chc_state.specs.PredSets.{PredSet}
use Rattle.pass_slice.specs.Slices.{Meets, body_meets, head_meets}

-- the set of the marked places
abbrev pub marked : List Bool → PredSet
marked table p = slice_index_or table p false

-- the numbers of the marked places, the first place having the number n
abbrev pub places : ℕ → List Bool → List ℕ
places n [] = []
places n (b ∷ table) = cond b (n ∷ places (n + 1) table) (places (n + 1) table)

-- the table has a place for each predicate, the marked ones are live, and every set that meets the
-- condition is within them
pub record Bounds (holds : List Clause → PredSet → Bool) (s : StateView) (table : List Bool) : Type 0 where
  pub long : length table ≡ length s.preds
  pub live : (p : ℕ) → IsTrue (marked table p) → IsTrue (is_live s.preds p)
  pub within : (set : PredSet) → Meets holds s set → (p : ℕ) → IsTrue (set p) → IsTrue (marked table p)

-- the predicate of the head, if there is one
abbrev pub head_pred : Option Atom → Option ℕ
head_pred None = None
head_pred (Some a) = Some a.pred

-- the clause concludes the predicate of the set from a body without one: it is reached
pub record Reaches (set : PredSet) (c : Clause) (p : ℕ) : Type 0 where
  pub in_set : set p ≡ true
  pub concludes : head_pred c.head ≡ Some p
  pub free : body_meets set c ≡ false

-- the clause has the predicate of the set in its body and concludes nothing of the set: it is needed
pub record Needs (set : PredSet) (c : Clause) (p : ℕ) : Type 0 where
  pub in_set : set p ≡ true
  pub uses : list_any (λ (a : Atom). nat_eq a.pred p) c.body ≡ true
  pub free : head_meets set c ≡ false

-- the predicate is marked, and without it the table bounds every set still
pub record Strikes (holds : List Clause → PredSet → Bool) (s : StateView) (table : List Bool) (p : ℕ) : Type 0 where
  pub in_set : marked table p ≡ true
  pub inside : p < length table
  pub bounds : Bounds holds s (slice_set table p false)

-- each clause of that number, if there is one, passes the test
abbrev pub AtPlace : (Clause → Bool) → List Clause → ℕ → Type 0
AtPlace test cs k = (c : Clause) → slice_get cs k ≡ Some c → IsTrue (test c)
