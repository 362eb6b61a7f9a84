-- What the way back over a slice needs, and where it leads.
use Rattle.std.specs.Prelude.{◌≡◌, ℕ, Bool, List, [], ◌∷◌, ◌++◌, length, map, Some, set, slice_get}
use Rattle.chc_state.specs.declared.defs.Defs.{Defs}
use Rattle.chc_state.specs.declared.refutation.RefStep.{RefStep}
use Rattle.chc_state.specs.States.{StateView}
use Rattle.chc_state.specs.Sorts.{positions}
use Rattle.chc_state.specs.Back.{or_none, constant, with_constants}
use Rattle.chc_state.specs.PredSets.{set_of}
use Rattle.chc_state.specs.Refuting.{numbers_where, number_before, numbered}
use Rattle.chc_state.specs.Passes.{IsState}
use Rattle.pass_slice.specs.declared.sliced.Removed.{Removed}
use Rattle.pass_slice.specs.declared.sliced.Sliced.{Sliced}
use Rattle.pass_slice.specs.Slices.{Slice, goes, truth, CanGo}

-- the predicate of that number, with the sorts of its positions
abbrev pub removed_from : StateView → ℕ → Removed
removed_from s p = record { pred = p; sorts = or_none (slice_get (positions s.preds) p) }

-- the numbers of the clauses that go with the predicates
abbrev pub gone_numbers : Slice → StateView → List ℕ → List ℕ
gone_numbers x s ps = numbers_where (goes x (set_of ps)) 0 s.clauses

-- the undo is that of the slice: it has the predicates that went, and the numbers of the clauses that went
pub record Stands (x : Slice) (u : Sliced) (s : StateView) (ps : List ℕ) : Type 0 where
  pub state : IsState s
  pub legal : CanGo x s ps
  pub removed : u.removed ≡ map (removed_from s) ps
  pub clauses : u.clauses ≡ gone_numbers x s ps

-- the definitions with one more, which is the predicate's: that truth value on all arguments
abbrev pub with_one : Bool → Removed → Defs → Defs
with_one b x d = record { list = d.list ++ constant x.sorts b ∷ []; of = set d.of x.pred (Some (length d.list)) }

-- the definitions with one more for each of the predicates, in order
abbrev pub with_removed : Bool → List Removed → Defs → Defs
with_removed b [] d = d
with_removed b (x ∷ xs) d = with_removed b xs (with_one b x d)

-- the definitions before the slice: each predicate that went is false on all values, or true, in order
abbrev pub slice_back : Slice → StateView → List ℕ → Defs → Defs
slice_back x s ps d = with_constants (positions s.preds) (truth x) ps d

-- the steps before the slice: the same, with the clause numbers turned back
abbrev pub slice_turned : Slice → StateView → List ℕ → List RefStep → List RefStep
slice_turned x s ps r = map (numbered (number_before (gone_numbers x s ps))) r
