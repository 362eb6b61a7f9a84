-- Why a trace or an answer isn't carried back.
use Rattle.std.specs.Prelude.{◌≡◌, ◌≢◌, List, ℕ, Ok, Err}
use Rattle.sha2.specs.Sha256.{sha256}
use Rattle.chc_sexpr.specs.declared.fault.TextFault.{TextFault}
use Rattle.chc_sexpr.specs.declared.fault.TextErr.TheVariants as text_err
use Rattle.chc_state.specs.States.{StateView}
use Rattle.chc_state.specs.declared.step.Step.{Step}
use Rattle.chc_script.specs.Scripts.{ScriptView}
use Rattle.chc_steps.specs.Kinds.{IsLegal, after}
use Rattle.chc_steps.specs.Runs.{IsFirstRefused}
use Rattle.chc_print.specs.Script.{IsScriptText}
use Rattle.chc_trace.specs.declared.trace.Trace.{Trace}
use Rattle.chc_trace.specs.Traces.{IsTraceReading}
use Rattle.chc_jobs.specs.Jobs.{ReadsAs, IsNoScript, GoesOver, Belongs}
use Rattle.chc_jobs.specs.Answering.{IsNoAnswer}
use Rattle.chc_jobs.specs.declared.lift.foreign.Foreign.{Foreign}
use Rattle.chc_jobs.specs.declared.lift.foreign.Foreign.TheVariants as foreign
use Rattle.chc_jobs.specs.declared.lift.model.LiftErr.{LiftErr}
use Rattle.chc_jobs.specs.declared.lift.model.LiftErr.TheVariants as lift_err

-- the bytes say no trace, and that is their first fault
abbrev pub IsNoTrace : List ℕ → TextFault → Type 0
IsNoTrace trace fault = IsTraceReading trace (Err (text_err.At fault))

-- the steps go to a state whose text is the one that was found; the kept one isn't
pub record IsOtherTarget (X : ScriptView) (steps : List Step) (kept found : List ℕ) : Type 0 where
  pub Z : StateView
  pub goes : GoesOver X.state steps Z
  pub printed : IsScriptText Z X.names found
  pub other : IsScriptText Z X.names kept → ⊥

-- why the trace isn't that of the script's bytes, which read as X: it keeps another digest; or the digest is right, and a step is
-- the first that isn't legal where it stands; or the steps go to a state of another text
abbrev pub IsForeign : List ℕ → ScriptView → Trace → Foreign → Type 0
IsForeign script X t (foreign.Source kept found) = (kept ≡ t.source) × (found ≡ sha256 script) × (kept ≢ found)
IsForeign script X t (foreign.Step k) = (t.source ≡ sha256 script) × IsFirstRefused after IsLegal X.state t.steps k
IsForeign script X t (foreign.Target kept found) = (t.source ≡ sha256 script) × (kept ≡ t.target) × IsOtherTarget X t.steps kept found

-- the script's bytes read as a script, and the trace's have that fault
pub record IsUnreadTrace (script trace : List ℕ) (fault : TextFault) : Type 0 where
  pub X : ScriptView
  pub reads : ReadsAs script X
  pub none : IsNoTrace trace fault

-- the script's bytes read as X, and the trace's say a trace that isn't the script's
pub record IsForeignTrace (script trace : List ℕ) (f : Foreign) : Type 0 where
  pub X : ScriptView
  pub t : Trace
  pub reads : ReadsAs script X
  pub says : IsTraceReading trace (Ok t)
  pub foreign : IsForeign script X t f

-- the trace belongs to the script and leads to Z, and the answer has that fault for Z
pub record IsUnreadAnswer (script trace answer : List ℕ) (fault : TextFault) : Type 0 where
  pub X : ScriptView
  pub t : Trace
  pub Z : StateView
  pub reads : ReadsAs script X
  pub says : IsTraceReading trace (Ok t)
  pub belongs : Belongs script X.names X.state t Z
  pub none : IsNoAnswer answer Z X.names fault

-- the script's bytes were refused, or memory was
abbrev pub IsScriptErr : List ℕ → LiftErr → Type 0
IsScriptErr script (lift_err.Script f) = IsNoScript script f
IsScriptErr script lift_err.NoMemory = Unit {0}
IsScriptErr script other = ⊥

-- the trace's bytes were refused, or memory was
abbrev pub IsTraceErr : List ℕ → LiftErr → Type 0
IsTraceErr trace (lift_err.Trace f) = IsNoTrace trace f
IsTraceErr trace lift_err.NoMemory = Unit {0}
IsTraceErr trace other = ⊥

-- the answer's bytes were refused, or memory was
abbrev pub IsAnswerErr : List ℕ → StateView → List (List ℕ) → LiftErr → Type 0
IsAnswerErr answer Z names (lift_err.Answer f) = IsNoAnswer answer Z names f
IsAnswerErr answer Z names lift_err.NoMemory = Unit {0}
IsAnswerErr answer Z names other = ⊥

-- a step is the first that isn't legal where it stands
abbrev pub IsStepFault : StateView → List Step → Foreign → Type 0
IsStepFault s steps (foreign.Step k) = IsFirstRefused after IsLegal s steps k
IsStepFault s steps other = ⊥

-- steps couldn't be replayed, or memory was refused
abbrev pub IsStepsErr : StateView → List Step → LiftErr → Type 0
IsStepsErr s steps (lift_err.Foreign f) = IsStepFault s steps f
IsStepsErr s steps lift_err.NoMemory = Unit {0}
IsStepsErr s steps other = ⊥

-- what replaying a trace on the script X comes to where it isn't the script's; want of memory says nothing
abbrev pub IsTraceRefusal : List ℕ → ScriptView → Trace → LiftErr → Type 0
IsTraceRefusal script X t (lift_err.Foreign f) = IsForeign script X t f
IsTraceRefusal script X t lift_err.NoMemory = Unit {0}
IsTraceRefusal script X t other = ⊥

-- the trace of a script was refused, or memory was
abbrev pub IsOwnTraceErr : List ℕ → List ℕ → LiftErr → Type 0
IsOwnTraceErr script trace (lift_err.Trace f) = IsUnreadTrace script trace f
IsOwnTraceErr script trace (lift_err.Foreign f) = IsForeignTrace script trace f
IsOwnTraceErr script trace lift_err.NoMemory = Unit {0}
IsOwnTraceErr script trace other = ⊥

-- what a refused lift comes to; want of memory says nothing
abbrev pub IsLiftRefusal : List ℕ → List ℕ → List ℕ → LiftErr → Type 0
IsLiftRefusal script trace answer (lift_err.Script f) = IsNoScript script f
IsLiftRefusal script trace answer (lift_err.Trace f) = IsUnreadTrace script trace f
IsLiftRefusal script trace answer (lift_err.Foreign f) = IsForeignTrace script trace f
IsLiftRefusal script trace answer (lift_err.Answer f) = IsUnreadAnswer script trace answer f
IsLiftRefusal script trace answer lift_err.NoMemory = Unit {0}
