use Rattle.std.proofs.lemmas.Result.{err_from_is_err_and}
use Rattle.std.specs.Prelude.{decimal}
use Rattle.chc_jobs.proofs.Lines.{HasFailed-longer, Puts-then}
use Rattle.chc_jobs.proofs.top.line.put_counted.Goals as goal

pub returns-in_err-put_all : goal.returns-in_err-put_all
returns-in_err-put_all g c =
    let p = err_from_is_err_and c.from_residual.result c.from_residual.ensures.1 in rw p.1 (HasFailed-longer _ (decimal c.args.n) _ _ c.in_err-put_all.ensures)

pub returns : goal.returns
returns g c = Puts-then _ _ _ _ _ _ c.in_ok-put_all.ensures c.put_number.ensures
