use Rattle.std.proofs.Common.{sym, ◌∙◌}
use Rattle.std.proofs.lemmas.Result.{err_from_is_err_and}
use Rattle.std.specs.Prelude.{codes}
use Rattle.chc_jobs.proofs.Lines.{HasPut-then, HasFailed-longer, HasPut-fails, Puts-then}
use Rattle.chc_jobs.proofs.Reasons.{bare_written, quoted_written}
use Rattle.chc_jobs.proofs.top.line.put_symbol.Goals as goal

pub returns-then-is_bare : goal.returns-then-is_bare
returns-then-is_bare g c = rw (bare_written c.args.name.now (sym c.is_bare.ensures ∙ c.if-is_bare.true)) c.put_all.ensures

pub returns-in_err-put_all : goal.returns-in_err-put_all
returns-in_err-put_all g c =
    let p = err_from_is_err_and c.from_residual.result c.from_residual.ensures.1 in
    let text = quoted_written c.args.name.now (sym c.is_bare.ensures ∙ c.if-is_bare.false) in
    rw (p.1, text) (HasFailed-longer _ (codes "|") _ _ (HasFailed-longer _ c.args.name.now _ _ c.in_err-put_all.ensures))

pub returns-in_err-put_all-2 : goal.returns-in_err-put_all-2
returns-in_err-put_all-2 g c =
    let p = err_from_is_err_and c.from_residual-in_err-put_all-2.result c.from_residual-in_err-put_all-2.ensures.1 in
    let text = quoted_written c.args.name.now (sym c.is_bare.ensures ∙ c.if-is_bare.false) in
    rw (p.1, text) (HasFailed-longer _ (codes "|") _ _ (HasPut-fails _ _ _ _ _ c.in_ok-put_all.ensures c.in_err-put_all-2.ensures))

pub returns : goal.returns
returns g c =
    let text = quoted_written c.args.name.now (sym c.is_bare.ensures ∙ c.if-is_bare.false) in
    rw text (Puts-then _ _ _ _ _ _ (HasPut-then _ _ _ _ _ c.in_ok-put_all.ensures c.in_ok-put_all-2.ensures) c.put_all-4.ensures)
