-- What an assertion and the clause that it says have to do with each other.
use Rattle.std.specs.Prelude.{◌≡◌, ℕ, true, IsTrue, List, [], map, Some, Ok, slice_get}
use Rattle.chc_sorts.specs.declared.sort.Sort.{Sort}
use Rattle.chc_sorts.specs.declared.sort.Sort.TheVariants as sort
use Rattle.chc_sorts.specs.Signature.{Signature}
use Rattle.chc_sorts.specs.WellFounded.{IsWellFounded}
use Rattle.chc_values.specs.declared.value.Value.{Value}
use Rattle.chc_values.specs.declared.world.WorldEntry.{WorldEntry}
use Rattle.chc_values.specs.Values.{AreOf}
use Rattle.chc_values.specs.Worlds.{IsWorld}
use Rattle.chc_terms.specs.declared.term.Term.{Term}
use Rattle.chc_terms.specs.Sorted.{Context, sort_of, is_unquantified}
use Rattle.chc_terms.specs.Laws.{Means}
use Rattle.chc_state.specs.declared.clause.Clause.{Clause}
use Rattle.chc_state.specs.declared.clause.PredDecl.{PredDecl}
use Rattle.chc_state.specs.declared.defs.Defs.{Defs}
use Rattle.chc_state.specs.States.{StateView}
use Rattle.chc_state.specs.Sorts.{positions}
use Rattle.chc_state.specs.WellFormed.{term_fits, is_well_formed}
use Rattle.chc_state.specs.Definitions.{PredMeans, DefMeans, HasUnder, IsTrueUnder, AssertTrue, Decided, Defines, fun_sort}
use Rattle.chc_script.specs.Horn.{clause_of}

-- what the assertions of a script are over: datatypes, predicates, and no definitions
abbrev pub script_context : Signature → List PredDecl → Context
script_context sig preds = record { sig = sig; preds = positions preds; defs = [] }

-- the assertion is well sorted over the state's predicates, and says the clause
pub record SaysClause (s : StateView) (assertion : Term) (clause : Clause) : Type 0 where
  pub sorted : sort_of (script_context s.sig s.preds) assertion [] ≡ Some sort.Bool
  pub says : clause_of assertion ≡ Ok clause

-- the clause of an assertion whose sorts and numbers fit is well formed
abbrev pub ClauseIsWellFormed : Type 0
ClauseIsWellFormed =
    (s : StateView) (assertion : Term) (clause : Clause) → SaysClause s assertion clause → IsTrue (term_fits s.sig assertion)
    → IsTrue (is_well_formed s.sig (positions s.preds) clause)

-- what terms are over that use the state's predicates and the definitions
abbrev pub context_under : StateView → Defs → Context
context_under s d = record { sig = s.sig; preds = positions s.preds; defs = map fun_sort d.list }

-- under the definitions the state's predicates mean what their sorts say, with at most one value
abbrev pub MeansUnder : StateView → List WorldEntry → Defs → Type 0
MeansUnder s w d = Means (context_under s d) (PredMeans s.sig w d) (DefMeans s.sig w d)

-- under the definitions every well-sorted term without quantifiers has a value
pub record HasValues (s : StateView) (w : List WorldEntry) (d : Defs) : Type 0 where
  pub valued :
      (t : Term) (vars : List Sort) (r : Sort) → sort_of (context_under s d) t vars ≡ Some r → IsTrue (is_unquantified t)
      → (env : List Value) → AreOf s.sig env vars → (v : Value) × HasUnder s.sig w d t env v

-- where an assertion is true under definitions, so is its clause
abbrev pub ClauseOfTrue : Type 0
ClauseOfTrue =
    (s : StateView) (w : List WorldEntry) (d : Defs) → IsWorld s.sig w → MeansUnder s w d
    → (assertion : Term) (clause : Clause) → SaysClause s assertion clause
    → AssertTrue s.sig w d assertion → IsTrueUnder s.sig w d clause

-- and back, where terms without quantifiers have values
abbrev pub TrueOfClause : Type 0
TrueOfClause =
    (s : StateView) (w : List WorldEntry) (d : Defs) → IsWorld s.sig w → MeansUnder s w d → HasValues s w d
    → (assertion : Term) (clause : Clause) → SaysClause s assertion clause
    → IsTrueUnder s.sig w d clause → AssertTrue s.sig w d assertion

-- both under a definition of each predicate; back where the definitions are decided and all predicates are live
pub record KeptTogether (s : StateView) (w : List WorldEntry) (d : Defs) (assertion : Term) (clause : Clause) : Type 0 where
  pub clause_true : AssertTrue s.sig w d assertion → IsTrueUnder s.sig w d clause
  pub assertion_true :
      Decided s.sig w d → ((p : ℕ) (decl : PredDecl) → slice_get s.preds p ≡ Some decl → decl.live ≡ true)
      → IsTrueUnder s.sig w d clause → AssertTrue s.sig w d assertion

abbrev pub KeepsTruth : Type 0
KeepsTruth =
    (s : StateView) (w : List WorldEntry) (d : Defs) → IsWorld s.sig w → IsWellFounded s.sig → Defines d s
    → (assertion : Term) (clause : Clause) → SaysClause s assertion clause → KeptTogether s w d assertion clause
