use Rattle.std.proofs.lemmas.Result.{err_from_is_err_and}
use Rattle.std.specs.Prelude.{codes}
use Rattle.chc_jobs.specs.Lines.{reason}
use Rattle.chc_jobs.proofs.Lines.{HasPut-then, HasFailed-longer, HasPut-fails, Puts-then}
use Rattle.chc_jobs.proofs.top.line.put_fault.Goals as goal

pub returns-in_err-put_counted : goal.returns-in_err-put_counted
returns-in_err-put_counted g c =
    let p = err_from_is_err_and c.from_residual.result c.from_residual.ensures.1 in rw p.1 (HasFailed-longer _ (reason c.args.fault.now) _ _ (HasFailed-longer _ (codes ": ") _ _ c.in_err-put_counted.ensures))

pub returns-in_err-put_all : goal.returns-in_err-put_all
returns-in_err-put_all g c =
    let p = err_from_is_err_and c.from_residual-in_err-put_all.result c.from_residual-in_err-put_all.ensures.1 in rw p.1 (HasFailed-longer _ (reason c.args.fault.now) _ _ (HasPut-fails _ _ _ _ _ c.in_ok-put_counted.ensures c.in_err-put_all.ensures))

pub returns : goal.returns
returns g c = Puts-then _ _ _ _ _ _ (HasPut-then _ _ _ _ _ c.in_ok-put_counted.ensures c.in_ok-put_all.ensures) c.put_reason.ensures
