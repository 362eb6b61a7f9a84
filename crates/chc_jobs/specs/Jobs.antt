-- What normalising a script's bytes comes to.
use Rattle.std.specs.Prelude.{◌≡◌, ℕ, List, length, Ok, Err}
use Rattle.sha2.specs.Sha256.{sha256}
use Rattle.chc_sexpr.specs.declared.fault.TextFault.{TextFault}
use Rattle.chc_sexpr.specs.declared.fault.TextErr.TheVariants as text_err
use Rattle.chc_state.specs.States.{StateView}
use Rattle.chc_state.specs.Meaning.{SameAnswer}
use Rattle.chc_state.specs.Passes.{IsFound}
use Rattle.chc_state.specs.declared.step.Step.{Step}
use Rattle.chc_script.specs.Scripts.{ScriptView}
use Rattle.chc_script.specs.WholeScripts.{IsScriptReading}
use Rattle.chc_steps.specs.Kinds.{IsLegal, after, IsFirstStep, IsNormal, terms_of}
use Rattle.chc_steps.specs.Runs.{Goes}
use Rattle.chc_print.specs.Script.{IsScriptText}
use Rattle.chc_trace.specs.declared.trace.Trace.{Trace}
use Rattle.chc_trace.specs.Traces.{SaysTrace, trace_lines}
use Rattle.read_again.specs.PrintedScripts.{AreReadable, SaysState}

-- the bytes read as the script X, and as no other
abbrev pub ReadsAs : List ℕ → ScriptView → Type 0
ReadsAs script X = IsScriptReading script (Ok X)

-- the bytes are no script, and that is their first fault
abbrev pub IsNoScript : List ℕ → TextFault → Type 0
IsNoScript script fault = IsScriptReading script (Err (text_err.At fault))

-- the steps go from s to z, each legal where it stands
abbrev pub GoesOver : StateView → List Step → StateView → Type 0
GoesOver s steps z = Goes after IsLegal s steps z

-- the steps go from s to z, and each is the one that is taken first where it stands; no kind has a step in z. False is
-- derived from z exactly where it is from s, in every world
pub record Simplifies (s : StateView) (steps : List Step) (z : StateView) : Type 0 where
  pub goes : GoesOver s steps z
  pub first : Goes after (IsFound IsFirstStep IsLegal terms_of) s steps z
  pub rest : IsNormal z
  pub answer : SameAnswer s z

-- the trace is that of the script's bytes, which stand for the state S under these names: it keeps their digest, its steps are
-- legal one after the other from S to Z, and its target is the text of Z
pub record Belongs (script : List ℕ) (names : List (List ℕ)) (S : StateView) (t : Trace) (Z : StateView) : Type 0 where
  pub source : t.source ≡ sha256 script
  pub goes : GoesOver S t.steps Z
  pub target : IsScriptText Z names t.target

-- the text says the state's own script again, where the assertion of each clause is no larger and no deeper than a term may be
abbrev pub SaysItself : StateView → List (List ℕ) → List ℕ → Type 0
SaysItself z names text = AreReadable z → SaysState z names text

-- the steps go from the state S to Z, which answers as S in every world, `out` is the text of Z and says Z's own script again,
-- and `trace` says the steps, the script's digest and `out`: a trace that belongs to the script
pub record Finishes (script : List ℕ) (names : List (List ℕ)) (S : StateView) (out trace : List ℕ) (before after steps : ℕ) : Type 0 where
  pub t : Trace
  pub Z : StateView
  pub simplifies : Simplifies S t.steps Z
  pub belongs : Belongs script names S t Z
  pub target_is : t.target ≡ out
  pub again : SaysItself Z names out
  pub tells : trace ≡ trace_lines t
  pub says : SaysTrace trace t
  pub clauses_before : before ≡ length S.clauses
  pub clauses_after : after ≡ length Z.clauses
  pub steps_taken : steps ≡ length t.steps

-- the script's bytes read as X, and these texts and numbers are what X comes to
pub record Normalises (script out trace : List ℕ) (before after steps : ℕ) : Type 0 where
  pub X : ScriptView
  pub reads : ReadsAs script X
  pub finishes : Finishes script X.names X.state out trace before after steps
