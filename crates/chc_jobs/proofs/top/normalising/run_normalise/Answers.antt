use Rattle.std.proofs.lemmas.Result.{err_from_is_err_and}
use Rattle.chc_jobs.proofs.NormaliseRuns.{normalise_early, normalise_unwritten, normalise_done, touches-script, touches-all}
use Rattle.chc_jobs.proofs.top.normalising.run_normalise.Goals as goal

pub returns-in_err-made-clause-refused : goal.returns-in_err-made-clause-refused
returns-in_err-made-clause-refused g c =
    let p = err_from_is_err_and c.from_residual.result c.from_residual.ensures.1 in
    rw (p.1, p.2) (normalise_early c.args.names.now.script.now c.args.names.now.out.now c.args.names.now.trace.now (g.F.Files.outside c.args.files.now) (g.F.Files.outside c.make_texts.new.files) _ c.in_err-made.ensures.only c.in_err-made.ensures.refused)

pub returns-in_err-made-clause-touches : goal.returns-in_err-made-clause-touches
returns-in_err-made-clause-touches g c = touches-script c.args.names.now.script.now c.args.names.now.out.now c.args.names.now.trace.now (g.F.Files.outside c.args.files.now) (g.F.Files.outside c.make_texts.new.files) c.in_err-made.ensures.only

pub returns-in_err-write_texts-clause-refused : goal.returns-in_err-write_texts-clause-refused
returns-in_err-write_texts-clause-refused g c =
    let p = err_from_is_err_and c.from_residual-in_err-write_texts.result c.from_residual-in_err-write_texts.ensures.1 in
    rw (p.1, p.2) (normalise_unwritten c.args.names.now.script.now c.args.names.now.out.now c.args.names.now.trace.now (g.F.Files.outside c.args.files.now) (g.F.Files.outside c.make_texts.new.files) (g.F.Files.outside c.write_texts.new.files) _ _ _ _ _ _
    c.in_ok-made.ensures.only c.in_ok-made.ensures.short c.in_ok-made.ensures.made c.in_err-write_texts.ensures.refused)

pub returns-in_err-write_texts-clause-touches : goal.returns-in_err-write_texts-clause-touches
returns-in_err-write_texts-clause-touches g c =
    touches-all c.args.names.now.script.now c.args.names.now.out.now c.args.names.now.trace.now (g.F.Files.outside c.args.files.now) (g.F.Files.outside c.make_texts.new.files) (g.F.Files.outside c.write_texts.new.files) c.in_ok-made.ensures.only c.in_err-write_texts.ensures.touches

pub returns-clause-done : goal.returns-clause-done
returns-clause-done g c =
    normalise_done c.args.names.now.script.now c.args.names.now.out.now c.args.names.now.trace.now (g.F.Files.outside c.args.files.now) (g.F.Files.outside c.make_texts.new.files) (g.F.Files.outside c.write_texts.new.files) _ _ _ _ _
    c.in_ok-made.ensures.only c.in_ok-made.ensures.short c.in_ok-made.ensures.made c.in_ok-write_texts.ensures.whole

pub returns-clause-touches : goal.returns-clause-touches
returns-clause-touches g c =
    touches-all c.args.names.now.script.now c.args.names.now.out.now c.args.names.now.trace.now (g.F.Files.outside c.args.files.now) (g.F.Files.outside c.make_texts.new.files) (g.F.Files.outside c.write_texts.new.files) c.in_ok-made.ensures.only c.in_ok-write_texts.ensures.touches
