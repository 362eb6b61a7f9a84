use Rattle.std.proofs.Common.{subst, Err}
use Rattle.chc_sorts.specs.Made.{CanBeMade}
use Rattle.chc_sexpr.specs.declared.fault.TextErr.TheVariants as text_err
use Rattle.chc_script.specs.WholeScripts.{IsScriptReading}
use Rattle.read_again.proofs.OwnAgain.{own_again, never_refused}
use Rattle.read_again.proofs.again.read_again.Goals as goal

pub returns-in-Ok-clause-again : goal.returns-in-Ok-clause-again
returns-in-Ok-clause-again c = λ named readable.
    let made = subst CanBeMade c.sig.ensures c.made_of_groups.ensures in
    let clauses = c.clauses-clauses.ensures in
    own_again c.args.script.now c.in_ok-text.text (record { made = made; formed = clauses.formed; live = clauses.live; within = clauses.within }) c.in_ok-text.ensures.text named readable
    c.bytes.result.now c.bytes.ensures c.in-Ok.again c.in-Ok.ensures.reading.1

pub returns-in-Err-At-clause-again : goal.returns-in-Err-At-clause-again
returns-in-Err-At-clause-again c = λ named readable.
    let made = subst CanBeMade c.sig.ensures c.made_of_groups.ensures in
    let clauses = c.clauses-clauses.ensures in
    let reading : IsScriptReading c.bytes.result.now (Err (text_err.At c.in-Err-At.fault)) = rw c.in-Err-At.field-0-is at c.in-Err-At.ensures.reading in
    never_refused c.args.script.now c.in_ok-text.text (record { made = made; formed = clauses.formed; live = clauses.live; within = clauses.within }) c.in_ok-text.ensures.text named readable
    c.bytes.result.now c.bytes.ensures reading.0
