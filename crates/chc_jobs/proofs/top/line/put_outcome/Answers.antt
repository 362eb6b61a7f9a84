use Rattle.chc_jobs.proofs.top.line.put_outcome.Goals as goal

pub returns-in-Lifted : goal.returns-in-Lifted
returns-in-Lifted g c = rw c.in-Lifted.is c.put_counted.ensures
