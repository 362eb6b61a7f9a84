use Rattle.std.proofs.lemmas.Result.{err_from_is_err_and}
use Rattle.chc_jobs.proofs.LiftRuns.{lift_early, lift_unwritten, lift_done, touches-inputs, touches-lift}
use Rattle.chc_jobs.proofs.top.lifting.run_lift.Goals as goal

pub returns-in_err-lifted-clause-refused : goal.returns-in_err-lifted-clause-refused
returns-in_err-lifted-clause-refused g c =
    let p = err_from_is_err_and c.from_residual.result c.from_residual.ensures.1 in
    rw (p.1, p.2) (lift_early c.args.names.now.script.now c.args.names.now.trace.now c.args.names.now.answer.now c.args.names.now.out.now (g.F.Files.outside c.args.files.now) (g.F.Files.outside c.make_text.new.files) _ c.in_err-lifted.ensures.only c.in_err-lifted.ensures.refused)

pub returns-in_err-lifted-clause-touches : goal.returns-in_err-lifted-clause-touches
returns-in_err-lifted-clause-touches g c = touches-inputs c.args.names.now.script.now c.args.names.now.trace.now c.args.names.now.answer.now c.args.names.now.out.now (g.F.Files.outside c.args.files.now) (g.F.Files.outside c.make_text.new.files) c.in_err-lifted.ensures.only

pub returns-in_err-write_word-clause-refused : goal.returns-in_err-write_word-clause-refused
returns-in_err-write_word-clause-refused g c =
    let p = err_from_is_err_and c.from_residual-in_err-write_word.result c.from_residual-in_err-write_word.ensures.1 in
    let cut = rw c.bytes.ensures at c.in_err-write_word.ensures.cut in
    rw (p.1, p.2) (lift_unwritten c.args.names.now.script.now c.args.names.now.trace.now c.args.names.now.answer.now c.args.names.now.out.now (g.F.Files.outside c.args.files.now) (g.F.Files.outside c.make_text.new.files) (g.F.Files.outside c.write_word.new.files) _ _ _ c.in_ok-lifted.ensures.only c.in_ok-lifted.ensures.short c.in_ok-lifted.ensures.made
    c.in_err-write_word.ensures.only cut c.in_err-write_word.ensures.refused)

pub returns-in_err-write_word-clause-touches : goal.returns-in_err-write_word-clause-touches
returns-in_err-write_word-clause-touches g c = touches-lift c.args.names.now.script.now c.args.names.now.trace.now c.args.names.now.answer.now c.args.names.now.out.now (g.F.Files.outside c.args.files.now) (g.F.Files.outside c.make_text.new.files) (g.F.Files.outside c.write_word.new.files) c.in_ok-lifted.ensures.only c.in_err-write_word.ensures.only

pub returns-clause-done : goal.returns-clause-done
returns-clause-done g c =
    let held = rw c.bytes.ensures at c.in_ok-write_word.ensures.whole in
    lift_done c.args.names.now.script.now c.args.names.now.trace.now c.args.names.now.answer.now c.args.names.now.out.now (g.F.Files.outside c.args.files.now) (g.F.Files.outside c.make_text.new.files) (g.F.Files.outside c.write_word.new.files) _ _ c.in_ok-lifted.ensures.only c.in_ok-lifted.ensures.short c.in_ok-lifted.ensures.made held

pub returns-clause-touches : goal.returns-clause-touches
returns-clause-touches g c = touches-lift c.args.names.now.script.now c.args.names.now.trace.now c.args.names.now.answer.now c.args.names.now.out.now (g.F.Files.outside c.args.files.now) (g.F.Files.outside c.make_text.new.files) (g.F.Files.outside c.write_word.new.files) c.in_ok-lifted.ensures.only c.in_ok-write_word.ensures.only
