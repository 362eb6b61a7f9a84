-- What the way back over a run makes of an answer.
use Rattle.std.proofs.Common.{ℕ, List, sym, subst}
use Rattle.std.specs.Prelude.{Ok}
use Rattle.chc_state.specs.States.{StateView}
use Rattle.chc_state.specs.Back.{LeadsBack}
use Rattle.chc_state.specs.Definitions.{Defines}
use Rattle.chc_state.specs.declared.defs.Defs.{Defs}
use Rattle.chc_state.specs.declared.step.Step.{Step}
use Rattle.chc_state.proofs.Members.{In-at}
use Rattle.chc_state.proofs.Places.{beside-at}
use Rattle.chc_script.specs.Scripts.{ScriptView}
use Rattle.chc_script.specs.Assertions.{KeepsAssertions}
use Rattle.chc_steps.specs.Kinds.{after, back}
use Rattle.chc_steps.specs.Laws.{LastStateIsOne}
use Rattle.chc_steps.specs.Runs.{last, IsDefsBack}
use Rattle.ans_model.specs.Answers.{IsModelReading}
use Rattle.chc_jobs.specs.Jobs.{GoesOver}
use Rattle.chc_jobs.specs.Lifting.{KeepsAsserted, IsCarried}

-- the assertions of a script are true where its clauses are
asserted : (X : ScriptView) (z : StateView) (d e : Defs) → KeepsAssertions X → LeadsBack X.state d e z → KeepsAsserted z d X e
asserted X z d e keeps leads w world holds decided k assertion at =
    let c = beside-at X.assertions X.state.clauses k assertion (sym keeps.counts) at in
    keeps.assertion_true w e world leads.defines decided k assertion c.0 (record { assertion_at = at; clause_at = c.1 })
    (record { clause_true = (leads.keeps w world holds).holds c.0 (In-at X.state.clauses k c.0 c.1) })

-- definitions of the state to which the steps lead are those of the last state
pub defines_last : LastStateIsOne → (s : StateView) (steps : List Step) (z : StateView) (d : Defs) → GoesOver s steps z → Defines d z → Defines d (last after s steps)
defines_last one s steps z d goes h = let P : StateView → Type 0 = λ v. Defines d v in subst P (one s z steps goes) h

-- what the way back makes of an answer
pub carried : LastStateIsOne → (answer : List ℕ) (X : ScriptView) (steps : List Step) (z : StateView) (d e : Defs) → KeepsAssertions X → GoesOver X.state steps z
    → IsModelReading z X.names answer (Ok d) → IsDefsBack after back X.state steps d e → IsCarried answer X steps z e
carried one answer X steps z d e keeps goes says found =
    let P : StateView → Type 0 = λ v. LeadsBack X.state d e v in
    let leads = subst P (sym (one X.state z steps goes)) found.leads in
    record { d = d; answers = says; carries = record { way = found.value; leads = leads; asserts = asserted X z d e keeps leads } }
