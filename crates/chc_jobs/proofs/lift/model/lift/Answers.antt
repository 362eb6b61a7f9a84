use Rattle.std.proofs.lemmas.Result.{err_from_is_err_and}
use Rattle.chc_jobs.proofs.LiftLaws.{answer_err, lifted}
use Rattle.chc_jobs.proofs.lift.model.lift.Goals as goal

pub returns-in_err-lifted-clause-refused : goal.returns-in_err-lifted-clause-refused
returns-in_err-lifted-clause-refused c =
    let p = err_from_is_err_and c.from_residual-in_err-lifted.result c.from_residual-in_err-lifted.ensures.1 in
    rw (p.1, p.2) (answer_err c.args.script.now c.args.trace.now c.args.answer.now c.in_ok-read.read c.in_ok-replayed.replayed.run.steps c.in_ok-replayed.replayed.run.undos c.in_ok-replayed.replayed.state
    c.in_ok-read.ensures.ok c.in_ok-replayed.ensures.ok _ c.in_err-lifted.ensures.refused)

pub returns-clause-ok : goal.returns-clause-ok
returns-clause-ok c =
    lifted c.args.script.now c.args.trace.now c.args.answer.now c.in_ok-read.read c.in_ok-replayed.replayed.run.steps c.in_ok-replayed.replayed.run.undos c.in_ok-replayed.replayed.state
    c.in_ok-read.ensures.ok c.in_ok-replayed.ensures.ok c.in_ok-lifted.lifted.text c.in_ok-lifted.lifted.count c.in_ok-lifted.ensures.ok
