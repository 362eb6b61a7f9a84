use Rattle.chc_jobs.specs.Runs.{NormaliseComes, LiftComes}
use Rattle.chc_jobs.proofs.Named.{normalise_named, lift_named}
use Rattle.chc_jobs.proofs.top.answer.Goals as goal

pub returns-in-Err-clause-normalise : goal.returns-in-Err-clause-normalise
returns-in-Err-clause-normalise g c script out trace form =
    normalise_named (λ x y z. NormaliseComes x y z (g.F.Files.outside c.args.files.now) (g.F.Files.outside c.run_normalise.new.files) c.in-Err.status)
    c.args.words.now c.in-Some.names.script.now c.in-Some.names.out.now c.in-Some.names.trace.now script out trace
    c.in-Some.ensures form c.in-Err.ensures.refused

pub returns-in-Err-run_lift-clause-lift : goal.returns-in-Err-run_lift-clause-lift
returns-in-Err-run_lift-clause-lift g c script trace answer out form =
    lift_named (λ x y z u. LiftComes x y z u (g.F.Files.outside c.args.files.now) (g.F.Files.outside c.run_lift.new.files) c.in-Err-run_lift.status)
    c.args.words.now c.in-Some-lift_names.names.script.now c.in-Some-lift_names.names.trace.now c.in-Some-lift_names.names.answer.now c.in-Some-lift_names.names.out.now
    script trace answer out c.in-Some-lift_names.ensures form c.in-Err-run_lift.ensures.refused
