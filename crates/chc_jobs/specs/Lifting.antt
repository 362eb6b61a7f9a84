-- What carrying an answer back to the script comes to, over bytes.
use Rattle.std.specs.Prelude.{◌≡◌, ◌<◌, ◌^◌, ℕ, List, length, Some, slice_get, Ok}
use Rattle.chc_values.specs.declared.world.WorldEntry.{WorldEntry}
use Rattle.chc_values.specs.Worlds.{IsWorld}
use Rattle.chc_terms.specs.declared.term.Term.{Term}
use Rattle.chc_state.specs.States.{StateView}
use Rattle.chc_state.specs.Definitions.{Holds, Decided, AssertTrue}
use Rattle.chc_state.specs.Back.{LeadsBack}
use Rattle.chc_state.specs.declared.defs.Defs.{Defs}
use Rattle.chc_state.specs.declared.step.Step.{Step}
use Rattle.chc_script.specs.Scripts.{ScriptView}
use Rattle.chc_steps.specs.declared.any.AnyUndo.{AnyUndo}
use Rattle.chc_steps.specs.Kinds.{after, back, StandsFor}
use Rattle.chc_steps.specs.Runs.{back_over, Stand}
use Rattle.chc_trace.specs.declared.trace.Trace.{Trace}
use Rattle.chc_trace.specs.Traces.{IsTraceReading}
use Rattle.ans_model.specs.Answers.{IsModelReading, Says}
use Rattle.ans_model.specs.Readable.{AreReadable}
use Rattle.ans_model.specs.Texts.{IsDefsText}
use Rattle.chc_jobs.specs.Jobs.{ReadsAs, Belongs}

-- the definitions e make every assertion of X true in each world in which d makes the clauses of Z true, where e is decided there
abbrev pub KeepsAsserted : StateView → Defs → ScriptView → Defs → Type 0
KeepsAsserted Z d X e =
    (w : List WorldEntry) → IsWorld X.state.sig w → Holds w d Z → Decided X.state.sig w e
    → (k : ℕ) (assertion : Term) → slice_get X.assertions k ≡ Some assertion → AssertTrue X.state.sig w e assertion

-- the definitions d of Z go back over the steps to the definitions e of X: in every world in which d makes the clauses of Z true,
-- e makes those of X true, and its assertions where e is decided
pub record CarriesBack (X : ScriptView) (steps : List Step) (Z : StateView) (d e : Defs) : Type 0 where
  pub way : e ≡ back_over after back X.state steps d
  pub leads : LeadsBack X.state d e Z
  pub asserts : KeepsAsserted Z d X e

-- the text is that of the definitions e as a model of X; where e can be read and the text isn't too long for that, it says
-- e again, as an answer for X
pub record IsModelPrinted (X : ScriptView) (e : Defs) (text : List ℕ) : Type 0 where
  pub printed : IsDefsText e X.state X.names text
  pub again : AreReadable e → length text < 2 ^ 32 → Says X.state X.names text (Ok e)

-- the script's bytes read as X, the trace's say a trace that belongs to them and leads to Z, the answer's say definitions d of Z,
-- these go back to definitions e of X, `out` is the text of e, which says e again, and there are so many definitions
pub record LiftsModel (script trace answer out : List ℕ) (count : ℕ) : Type 0 where
  pub X : ScriptView
  pub t : Trace
  pub Z : StateView
  pub d : Defs
  pub e : Defs
  pub reads : ReadsAs script X
  pub says : IsTraceReading trace (Ok t)
  pub belongs : Belongs script X.names X.state t Z
  pub answers : IsModelReading Z X.names answer (Ok d)
  pub carries : CarriesBack X t.steps Z d e
  pub printed : IsModelPrinted X e out
  pub counted : count ≡ length e.list

-- the trace's bytes say a trace that belongs to the script, which stands for X, and leads to Z over these steps, for which the undos stand
pub record IsOpened (script trace : List ℕ) (X : ScriptView) (steps : List Step) (undos : List AnyUndo) (Z : StateView) : Type 0 where
  pub t : Trace
  pub says : IsTraceReading trace (Ok t)
  pub steps_are : steps ≡ t.steps
  pub belongs : Belongs script X.names X.state t Z
  pub stand : Stand after StandsFor undos X.state steps

-- the answer says definitions of Z, which go back over the steps to definitions e of X
pub record IsCarried (answer : List ℕ) (X : ScriptView) (steps : List Step) (Z : StateView) (e : Defs) : Type 0 where
  pub d : Defs
  pub answers : IsModelReading Z X.names answer (Ok d)
  pub carries : CarriesBack X steps Z d e

-- the answer says definitions of Z, which go back over the steps to definitions of X, of which this is the text and the number
pub record IsFinished (answer : List ℕ) (X : ScriptView) (steps : List Step) (Z : StateView) (out : List ℕ) (count : ℕ) : Type 0 where
  pub e : Defs
  pub carried : IsCarried answer X steps Z e
  pub printed : IsModelPrinted X e out
  pub counted : count ≡ length e.list
