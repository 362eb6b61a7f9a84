use Rattle.chc_jobs.proofs.top.line.put_foreign.Goals as goal

pub returns-in-Step : goal.returns-in-Step
returns-in-Step g c = rw c.in-Step.is c.put_counted.ensures

pub returns-in-Target : goal.returns-in-Target
returns-in-Target g c = rw c.in-Target.is c.put_all-in-Target.ensures
