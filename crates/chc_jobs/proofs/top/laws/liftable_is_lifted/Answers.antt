use Rattle.chc_jobs.proofs.LiftLaws.{liftable}
use Rattle.chc_jobs.proofs.top.laws.liftable_is_lifted.Goals as goal

pub returns : goal.returns
returns c = liftable c.last_state_is_one.ensures c.no_legal_step_is_refused.ensures
