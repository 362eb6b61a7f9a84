use Rattle.chc_jobs.proofs.NormaliseRuns.{normalise_completes}
use Rattle.chc_jobs.proofs.LiftRuns.{lift_completes}
use Rattle.chc_jobs.proofs.top.run.Goals as goal

pub returns-clause-complete : goal.returns-clause-complete
returns-clause-complete g c script out trace form =
    normalise_completes script out trace _ _ _ (c.answer-status.ensures.normalise script out trace form)

pub returns-clause-lift_complete : goal.returns-clause-lift_complete
returns-clause-lift_complete g c script trace answer out form =
    lift_completes c.liftable_is_lifted.ensures script trace answer out _ _ _ (c.answer-status.ensures.lift script trace answer out form)
