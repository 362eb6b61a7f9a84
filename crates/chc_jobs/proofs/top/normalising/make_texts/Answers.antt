use Rattle.std.proofs.lemmas.Result.{err_from_is_err_and}
use Rattle.chc_jobs.proofs.NormaliseRuns.{script_unread, script_refused, script_short, script_made}
use Rattle.chc_jobs.proofs.top.normalising.make_texts.Goals as goal

pub returns-in_err-text-clause-refused : goal.returns-in_err-text-clause-refused
returns-in_err-text-clause-refused g c =
    let p = err_from_is_err_and c.from_residual.result c.from_residual.ensures.1 in
    rw (p.1, p.2) (script_unread c.args.names.now.script.now c.args.names.now.out.now c.args.names.now.trace.now (g.F.Files.outside c.args.files.now) (g.F.Files.outside c.read_word.new.files) _ c.in_err-text.ensures.refused)

pub returns-in_err-made-clause-refused : goal.returns-in_err-made-clause-refused
returns-in_err-made-clause-refused g c =
    let p = err_from_is_err_and c.from_residual-in_err-made.result c.from_residual-in_err-made.ensures.1 in
    let refused = rw c.bytes.ensures at c.in_err-made.ensures.refused in
    rw (p.1, p.2) (script_refused c.args.names.now.script.now c.args.names.now.out.now c.args.names.now.trace.now (g.F.Files.outside c.args.files.now) (g.F.Files.outside c.read_word.new.files) _ _ c.in_ok-text.ensures.text c.in_ok-text.ensures.within refused)

pub returns-clause-short : goal.returns-clause-short
returns-clause-short g c = script_short c.args.names.now.script.now c.args.names.now.out.now c.args.names.now.trace.now (g.F.Files.outside c.args.files.now) _ c.in_ok-text.ensures.text c.in_ok-text.ensures.within

pub returns-clause-made : goal.returns-clause-made
returns-clause-made g c =
    let made = rw c.bytes.ensures at c.in_ok-made.ensures.ok in
    script_made c.args.names.now.script.now c.args.names.now.out.now c.args.names.now.trace.now (g.F.Files.outside c.args.files.now) _ _ _ _ _ _ c.in_ok-text.ensures.text made
