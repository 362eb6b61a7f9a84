-- Assertions and their clauses.
use Rattle.std.specs.Prelude.{◌≡◌, ℕ, List, Some, length, slice_get}
use Rattle.chc_values.specs.declared.world.WorldEntry.{WorldEntry}
use Rattle.chc_values.specs.Worlds.{IsWorld}
use Rattle.chc_terms.specs.declared.term.Term.{Term}
use Rattle.chc_state.specs.declared.clause.Clause.{Clause}
use Rattle.chc_state.specs.declared.defs.Defs.{Defs}
use Rattle.chc_state.specs.Definitions.{AssertTrue, Decided, Defines, IsTrueUnder}
use Rattle.chc_script.specs.Scripts.{ScriptView}

-- the assertion and the clause stand at the same place of the script
pub record IsAt (X : ScriptView) (k : ℕ) (assertion : Term) (clause : Clause) : Type 0 where
  pub assertion_at : slice_get X.assertions k ≡ Some assertion
  pub clause_at : slice_get X.state.clauses k ≡ Some clause

-- in every world, under definitions of the script's predicates, each clause is true where its assertion is;
-- and back where the definitions have a value everywhere
pub record KeepsAssertions (X : ScriptView) : Type 0 where
  pub counts : length X.assertions ≡ length X.state.clauses
  pub clause_true :
      (w : List WorldEntry) (d : Defs) → IsWorld X.state.sig w → Defines d X.state
      → (k : ℕ) (assertion : Term) (clause : Clause) → IsAt X k assertion clause
      → AssertTrue X.state.sig w d assertion → IsTrueUnder X.state.sig w d clause
  pub assertion_true :
      (w : List WorldEntry) (d : Defs) → IsWorld X.state.sig w → Defines d X.state → Decided X.state.sig w d
      → (k : ℕ) (assertion : Term) (clause : Clause) → IsAt X k assertion clause
      → IsTrueUnder X.state.sig w d clause → AssertTrue X.state.sig w d assertion
