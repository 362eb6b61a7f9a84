-- What the parts of a lift come to together.
use Rattle.std.proofs.Common.{◌≡◌, ◌≢◌, ℕ, List, sym, ◌∙◌, subst}
use Rattle.std.specs.Prelude.{Ok}
use Rattle.chc_sexpr.specs.declared.fault.TextFault.{TextFault}
use Rattle.chc_state.specs.States.{StateView}
use Rattle.chc_state.specs.declared.defs.Defs.{Defs}
use Rattle.chc_state.specs.declared.step.Step.{Step}
use Rattle.chc_script.specs.Scripts.{ScriptView}
use Rattle.chc_steps.specs.declared.any.AnyUndo.{AnyUndo}
use Rattle.chc_steps.specs.Laws.{LastStateIsOne, NoLegalStepIsRefused}
use Rattle.chc_print.specs.Script.{IsScriptText}
use Rattle.chc_trace.specs.declared.trace.Trace.{Trace}
use Rattle.ans_model.specs.Answers.{Says as SaysModel}
use Rattle.chc_jobs.specs.Jobs.{ReadsAs, GoesOver, Belongs}
use Rattle.chc_jobs.specs.Answering.{IsNoAnswer}
use Rattle.chc_jobs.specs.Lifting.{IsOpened, IsFinished, LiftsModel}
use Rattle.chc_jobs.specs.LiftFaults.{IsOtherTarget, IsForeign, IsForeignTrace, IsUnreadAnswer, IsAnswerErr, IsLiftRefusal}
use Rattle.chc_jobs.specs.Runs.{AreLiftable, LiftableIsLifted}
use Rattle.chc_jobs.specs.declared.lift.foreign.Foreign.{Foreign}
use Rattle.chc_jobs.specs.declared.lift.foreign.Foreign.TheVariants as foreign
use Rattle.chc_jobs.specs.declared.lift.model.LiftErr.{LiftErr}
use Rattle.chc_jobs.specs.declared.lift.model.LiftErr.TheVariants as lift_err
use Rattle.chc_jobs.specs.declared.top.status.Status.TheVariants as status

-- a text that differs from the state's isn't its text
pub other_target : (X : ScriptView) (steps : List Step) (Z : StateView) (kept found : List ℕ)
    → GoesOver X.state steps Z → IsScriptText Z X.names found → ((other : List ℕ) → IsScriptText Z X.names other → other ≡ found) → kept ≢ found → IsOtherTarget X steps kept found
other_target X steps Z kept found goes printed only apart = record { Z = Z; goes = goes; printed = printed; other = λ p. apart (only kept p) }

module _ (script trace answer : List ℕ) (X : ScriptView) (steps : List Step) (undos : List AnyUndo) (Z : StateView)
    (reads : ReadsAs script X) (opened : IsOpened script trace X steps undos Z) where
  no_answer : (fault : TextFault) → IsNoAnswer answer Z X.names fault → IsUnreadAnswer script trace answer fault
  no_answer fault none = record { X = X; t = opened.t; Z = Z; reads = reads; says = opened.says; belongs = opened.belongs; none = none }

  -- an answer that was refused
  pub answer_err : (e : LiftErr) → IsAnswerErr answer Z X.names e → IsLiftRefusal script trace answer e
  answer_err (lift_err.Script f) h = absurd h
  answer_err (lift_err.Trace f) h = absurd h
  answer_err (lift_err.Foreign f) h = absurd h
  answer_err (lift_err.Answer f) h = no_answer f h
  answer_err lift_err.NoMemory h = h

  -- an answer that was carried back
  pub lifted : (out : List ℕ) (count : ℕ) → IsFinished answer X steps Z out count → LiftsModel script trace answer out count
  lifted out count h = record {
    X = X;
    t = opened.t;
    Z = Z;
    d = h.carried.d;
    e = h.e;
    reads = reads;
    says = opened.says;
    belongs = opened.belongs;
    answers = h.carried.answers;
    carries = rw (sym opened.steps_are) h.carried.carries;
    printed = h.printed;
    counted = h.counted;
  }

-- the steps lead to one state
one_last : LastStateIsOne → (s : StateView) (steps : List Step) (y z : StateView) → GoesOver s steps y → GoesOver s steps z → y ≡ z
one_last one s steps y z g h = one s y steps g ∙ sym (one s z steps h)

-- what belongs to a script and its trace belongs to them by whatever names
belongs_as : (script : List ℕ) (X Y : ScriptView) (t u : Trace) (Z : StateView) → X ≡ Y → t ≡ u → Belongs script Y.names Y.state u Z → Belongs script X.names X.state t Z
belongs_as script X Y t u Z e f b =
    let P : ScriptView → Type 0 = λ V. Belongs script V.names V.state t Z in
    let Q : Trace → Type 0 = λ v. Belongs script Y.names Y.state v Z in
    subst P (sym e) (subst Q (sym f) b)

says_as : (answer : List ℕ) (X Y : ScriptView) (Z V : StateView) (d : Defs) → X ≡ Y → Z ≡ V → SaysModel V Y.names answer (Ok d) → SaysModel Z X.names answer (Ok d)
says_as answer X Y Z V d e f m =
    let P : ScriptView → Type 0 = λ W. SaysModel Z W.names answer (Ok d) in
    let Q : StateView → Type 0 = λ W. SaysModel W Y.names answer (Ok d) in
    subst P (sym e) (subst Q (sym f) m)

module _ (one : LastStateIsOne) (none_refused : NoLegalStepIsRefused) where
  -- a trace that belongs to the script isn't foreign
  belongs_home : (script : List ℕ) (X : ScriptView) (t : Trace) (Z : StateView) (f : Foreign) → Belongs script X.names X.state t Z → IsForeign script X t f → ⊥
  belongs_home script X t Z (foreign.Source kept found) b h = h.2 (h.0 ∙ b.source ∙ sym h.1)
  belongs_home script X t Z (foreign.Step k) b h = none_refused X.state Z t.steps k b.goes h.1
  belongs_home script X t Z (foreign.Target kept found) b h =
      let same = one_last one X.state t.steps Z h.2.Z b.goes h.2.goes in
      let P : StateView → Type 0 = λ v. IsScriptText v X.names kept in
      let Q : List ℕ → Type 0 = λ text. IsScriptText Z X.names text in
      h.2.other (subst P same (subst Q (sym h.1) b.target))

  home_trace : (script trace answer : List ℕ) (f : Foreign) → AreLiftable script trace answer → IsForeignTrace script trace f → ⊥
  home_trace script trace answer f v h =
      belongs_home script h.X h.t v.Z f (belongs_as script h.X v.X h.t v.t v.Z (h.reads.1 v.X v.reads) (h.says.1 v.t v.says) v.belongs) h.foreign

  answered : (script trace answer : List ℕ) (f : TextFault) → AreLiftable script trace answer → IsUnreadAnswer script trace answer f → ⊥
  answered script trace answer f v h =
      let e = h.reads.1 v.X v.reads in
      let b = belongs_as script h.X v.X h.t v.t v.Z e (h.says.1 v.t v.says) v.belongs in
      let same = one_last one h.X.state h.t.steps h.Z v.Z h.belongs.goes b.goes in
      h.none.reading.0 v.d (says_as answer h.X v.X h.Z v.Z v.d e same v.answers)

  -- a script, a trace that belongs to it and an answer aren't refused
  pub liftable : LiftableIsLifted
  liftable script trace answer v (status.Done o) h = h
  liftable script trace answer v status.Usage h = h
  liftable script trace answer v (status.ScriptRefused f) h = h.0 v.X v.reads
  liftable script trace answer v (status.TraceRefused f) h = h.none.0 v.t v.says
  liftable script trace answer v (status.Foreign f) h = home_trace script trace answer f v h
  liftable script trace answer v (status.AnswerRefused f) h = answered script trace answer f v h
  liftable script trace answer v (status.ReadFault k) h = h
  liftable script trace answer v (status.WriteFault k) h = h
  liftable script trace answer v (status.TooLong k) h = h
  liftable script trace answer v status.NoMemory h = h
