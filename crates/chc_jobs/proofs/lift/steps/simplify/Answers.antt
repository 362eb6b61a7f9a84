use Rattle.chc_jobs.proofs.Kept.{names_kept}
use Rattle.chc_jobs.proofs.lift.steps.simplify.Goals as goal

pub returns-clause-names : goal.returns-clause-names
returns-clause-names c = λ names h. names_kept c.args.s c.in_ok-state.state names c.in_ok-state.ensures.run.same_sig c.in_ok-state.ensures.as_many h
