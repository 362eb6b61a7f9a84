use Rattle.std.proofs.lemmas.Result.{err_from_is_err_and}
use Rattle.chc_jobs.proofs.NormaliseRuns.{out_refused, trace_refused, touches-out, touches-both}
use Rattle.chc_jobs.proofs.top.normalising.write_texts.Goals as goal

pub returns-in_err-write_word-clause-refused : goal.returns-in_err-write_word-clause-refused
returns-in_err-write_word-clause-refused g c =
    let p = err_from_is_err_and c.from_residual.result c.from_residual.ensures.1 in
    let cut = rw c.bytes.ensures at c.in_err-write_word.ensures.cut in
    rw (p.1, p.2) (out_refused c.args.names.now.script.now c.args.names.now.out.now c.args.names.now.trace.now c.args.made.now.out c.args.made.now.trace (g.F.Files.outside c.args.files.now) (g.F.Files.outside c.write_word.new.files) _ c.requires c.in_err-write_word.ensures.only cut c.in_err-write_word.ensures.refused)

pub returns-in_err-write_word-clause-touches : goal.returns-in_err-write_word-clause-touches
returns-in_err-write_word-clause-touches g c = touches-out c.args.names.now.script.now c.args.names.now.out.now c.args.names.now.trace.now (g.F.Files.outside c.args.files.now) (g.F.Files.outside c.write_word.new.files) c.in_err-write_word.ensures.only

pub returns-in_err-write_word-2-clause-refused : goal.returns-in_err-write_word-2-clause-refused
returns-in_err-write_word-2-clause-refused g c =
    let p = err_from_is_err_and c.from_residual-in_err-write_word-2.result c.from_residual-in_err-write_word-2.ensures.1 in
    let held = rw c.bytes.ensures at c.in_ok-write_word.ensures.whole in
    let cut = rw c.bytes-2.ensures at c.in_err-write_word-2.ensures.cut in
    rw (p.1, p.2) (trace_refused c.args.names.now.script.now c.args.names.now.out.now c.args.names.now.trace.now c.args.made.now.out c.args.made.now.trace (g.F.Files.outside c.args.files.now) (g.F.Files.outside c.write_word.new.files) (g.F.Files.outside c.write_word-2.new.files) _ c.requires
    c.in_ok-write_word.ensures.only held c.in_err-write_word-2.ensures.only cut c.in_err-write_word-2.ensures.refused)

pub returns-in_err-write_word-2-clause-touches : goal.returns-in_err-write_word-2-clause-touches
returns-in_err-write_word-2-clause-touches g c =
    touches-both c.args.names.now.script.now c.args.names.now.out.now c.args.names.now.trace.now (g.F.Files.outside c.args.files.now) (g.F.Files.outside c.write_word.new.files) (g.F.Files.outside c.write_word-2.new.files) c.in_ok-write_word.ensures.only c.in_err-write_word-2.ensures.only

pub returns-clause-touches : goal.returns-clause-touches
returns-clause-touches g c =
    touches-both c.args.names.now.script.now c.args.names.now.out.now c.args.names.now.trace.now (g.F.Files.outside c.args.files.now) (g.F.Files.outside c.write_word.new.files) (g.F.Files.outside c.write_word-2.new.files) c.in_ok-write_word.ensures.only c.in_ok-write_word-2.ensures.only
