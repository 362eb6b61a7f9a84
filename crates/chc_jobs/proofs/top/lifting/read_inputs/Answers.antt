use Rattle.std.proofs.lemmas.Result.{err_from_is_err_and}
use Rattle.chc_jobs.proofs.LiftRuns.{script_unread, trace_unread, answer_unread, reads_script, reads_trace, reads_answer, all_read}
use Rattle.chc_jobs.proofs.top.lifting.read_inputs.Goals as goal

pub returns-in_err-script-clause-refused : goal.returns-in_err-script-clause-refused
returns-in_err-script-clause-refused g c =
    let p = err_from_is_err_and c.from_residual.result c.from_residual.ensures.1 in
    rw (p.1, p.2) (script_unread c.args.names.now.script.now c.args.names.now.trace.now c.args.names.now.answer.now c.args.names.now.out.now (g.F.Files.outside c.args.files.now) (g.F.Files.outside c.read_word.new.files) _ c.in_err-script.ensures.refused)

pub returns-in_err-script-clause-only : goal.returns-in_err-script-clause-only
returns-in_err-script-clause-only g c = reads_script c.args.names.now.script.now c.args.names.now.trace.now c.args.names.now.answer.now c.args.names.now.out.now (g.F.Files.outside c.args.files.now) (g.F.Files.outside c.read_word.new.files) c.in_err-script.ensures.only

pub returns-in_err-trace-clause-refused : goal.returns-in_err-trace-clause-refused
returns-in_err-trace-clause-refused g c =
    let p = err_from_is_err_and c.from_residual-in_err-trace.result c.from_residual-in_err-trace.ensures.1 in
    rw (p.1, p.2) (trace_unread c.args.names.now.script.now c.args.names.now.trace.now c.args.names.now.answer.now c.args.names.now.out.now (g.F.Files.outside c.args.files.now) (g.F.Files.outside c.read_word.new.files) (g.F.Files.outside c.read_word-2.new.files) _ _ c.in_ok-script.ensures.only c.in_ok-script.ensures.text c.in_ok-script.ensures.within c.in_err-trace.ensures.refused)

pub returns-in_err-trace-clause-only : goal.returns-in_err-trace-clause-only
returns-in_err-trace-clause-only g c = reads_trace c.args.names.now.script.now c.args.names.now.trace.now c.args.names.now.answer.now c.args.names.now.out.now (g.F.Files.outside c.args.files.now) (g.F.Files.outside c.read_word.new.files) (g.F.Files.outside c.read_word-2.new.files) c.in_ok-script.ensures.only c.in_err-trace.ensures.only

pub returns-in_err-answer-clause-refused : goal.returns-in_err-answer-clause-refused
returns-in_err-answer-clause-refused g c =
    let p = err_from_is_err_and c.from_residual-in_err-answer.result c.from_residual-in_err-answer.ensures.1 in
    rw (p.1, p.2) (answer_unread c.args.names.now.script.now c.args.names.now.trace.now c.args.names.now.answer.now c.args.names.now.out.now (g.F.Files.outside c.args.files.now) (g.F.Files.outside c.read_word.new.files) (g.F.Files.outside c.read_word-2.new.files) (g.F.Files.outside c.read_word-3.new.files) _ _ _ c.in_ok-script.ensures.only c.in_ok-trace.ensures.only
    c.in_ok-script.ensures.text c.in_ok-script.ensures.within c.in_ok-trace.ensures.text c.in_ok-trace.ensures.within c.in_err-answer.ensures.refused)

pub returns-in_err-answer-clause-only : goal.returns-in_err-answer-clause-only
returns-in_err-answer-clause-only g c = reads_answer c.args.names.now.script.now c.args.names.now.trace.now c.args.names.now.answer.now c.args.names.now.out.now (g.F.Files.outside c.args.files.now) (g.F.Files.outside c.read_word.new.files) (g.F.Files.outside c.read_word-2.new.files) (g.F.Files.outside c.read_word-3.new.files) c.in_ok-script.ensures.only c.in_ok-trace.ensures.only c.in_err-answer.ensures.only

pub returns-clause-read : goal.returns-clause-read
returns-clause-read g c =
    all_read c.args.names.now.script.now c.args.names.now.trace.now c.args.names.now.answer.now c.args.names.now.out.now (g.F.Files.outside c.args.files.now) (g.F.Files.outside c.read_word.new.files) (g.F.Files.outside c.read_word-2.new.files) _ _ _ c.in_ok-script.ensures.only c.in_ok-trace.ensures.only
    c.in_ok-script.ensures.text c.in_ok-script.ensures.within c.in_ok-trace.ensures.text c.in_ok-trace.ensures.within c.in_ok-answer.ensures.text c.in_ok-answer.ensures.within

pub returns-clause-only : goal.returns-clause-only
returns-clause-only g c = reads_answer c.args.names.now.script.now c.args.names.now.trace.now c.args.names.now.answer.now c.args.names.now.out.now (g.F.Files.outside c.args.files.now) (g.F.Files.outside c.read_word.new.files) (g.F.Files.outside c.read_word-2.new.files) (g.F.Files.outside c.read_word-3.new.files) c.in_ok-script.ensures.only c.in_ok-trace.ensures.only c.in_ok-answer.ensures.only
