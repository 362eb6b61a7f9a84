use Rattle.std.proofs.lemmas.Result.{err_from_is_err_and}
use Rattle.std.specs.Prelude.{codes}
use Rattle.chc_jobs.proofs.Lines.{HasPut-then, HasFailed-longer, HasPut-fails, Puts-then}
use Rattle.chc_jobs.specs.Lines.{counted}
use Rattle.chc_jobs.proofs.top.line.put_normalised.Goals as goal

pub returns-in_err-put_counted : goal.returns-in_err-put_counted
returns-in_err-put_counted g c =
    let p = err_from_is_err_and c.from_residual.result c.from_residual.ensures.1 in rw p.1 (HasFailed-longer _ (counted (codes ", steps ") c.args.steps) _ _ (HasFailed-longer _ (counted (codes " to ") c.args.after) _ _ c.in_err-put_counted.ensures))

pub returns-in_err-put_counted-2 : goal.returns-in_err-put_counted-2
returns-in_err-put_counted-2 g c =
    let p = err_from_is_err_and c.from_residual-in_err-put_counted-2.result c.from_residual-in_err-put_counted-2.ensures.1 in rw p.1 (HasFailed-longer _ (counted (codes ", steps ") c.args.steps) _ _ (HasPut-fails _ _ _ _ _ c.in_ok-put_counted.ensures c.in_err-put_counted-2.ensures))

pub returns : goal.returns
returns g c = Puts-then _ _ _ _ _ _ (HasPut-then _ _ _ _ _ c.in_ok-put_counted.ensures c.in_ok-put_counted-2.ensures) c.put_counted-3.ensures
