-- Clauses that conclude nothing new, and steps that remove one.
use Rattle.std.specs.Prelude.{◌≡◌, ◌⊎◌, ◌<◌, ℕ, Bool, false, not, ◌||◌, nat_lt, List, [], ◌∷◌, map, remove, Some, None, slice_get}
use Rattle.chc_terms.specs.declared.term.Term.TheVariants as term
use Rattle.chc_state.specs.declared.clause.Atom.{Atom}
use Rattle.chc_state.specs.declared.clause.Clause.{Clause}
use Rattle.chc_state.specs.declared.clause.PredDecl.{PredDecl}
use Rattle.chc_state.specs.declared.refutation.RefStep.{RefStep}
use Rattle.chc_state.specs.States.{StateView}
use Rattle.chc_state.specs.Limits.{is_query, has_one_query, live_count, first_passed}
use Rattle.chc_state.specs.Meaning.{In}
use Rattle.chc_state.specs.Refuting.{number_before, numbered}
use Rattle.chc_state.specs.Passes.{IsState}

-- some conjunct is `false`
abbrev pub IsContradicted : Clause → Type 0
IsContradicted c = In (term.Lit false) c.conj

-- the head is one of the body atoms
abbrev pub RepeatsBody : Clause → Type 0
RepeatsBody c = (h : Atom) × (c.head ≡ Some h) × In h c.body

-- the clause concludes nothing new
abbrev pub IsVoid : Clause → Type 0
IsVoid c = IsContradicted c ⊎ RepeatsBody c

-- the state without the clause of that number
abbrev pub without_clause : StateView → ℕ → StateView
without_clause s k = record { sig = s.sig; preds = s.preds; clauses = remove s.clauses k }

-- the clause of that number may be removed
pub record CanVoid (s : StateView) (k : ℕ) : Type 0 where
  pub clause : Clause
  pub named : slice_get s.clauses k ≡ Some clause
  pub void : IsVoid clause
  pub within : first_passed (without_clause s k).preds (without_clause s k).clauses ≡ None

-- whether the limits hold without the clause: it isn't the only query, or there is room for the predicate of another one
abbrev pub has_room : List PredDecl → List Clause → Clause → Bool
has_room preds cs c = not (is_query c) || not (has_one_query cs) || not (nat_lt 65535 (live_count preds))

-- it may be removed, and none before it
pub record IsLeastVoid (s : StateView) (k : ℕ) : Type 0 where
  pub legal : CanVoid s k
  pub least : (j : ℕ) → j < k → CanVoid s j → ⊥

-- no clause may be removed
abbrev pub HasNoVoid : StateView → Type 0
HasNoVoid s = (k : ℕ) → CanVoid s k → ⊥

-- the undo is the number of the clause that went
pub record VoidStands (u : ℕ) (s : StateView) (k : ℕ) : Type 0 where
  pub state : IsState s
  pub legal : CanVoid s k
  pub number : u ≡ k

-- the steps before: the same, with the clause numbers turned back
abbrev pub void_turned : ℕ → List RefStep → List RefStep
void_turned k r = map (numbered (number_before (k ∷ []))) r
