use Rattle.chc_sexpr.proofs.Fronts.{on_err, unchanged}
use Rattle.chc_sexpr.proofs.symbol.write_symbol.Goals as goal

pub returns-in_err-extend-clause-front : goal.returns-in_err-extend-clause-front
returns-in_err-extend-clause-front c = on_err _ c.from_residual.result (unchanged _ _ _ c.in_err-extend.ensures.same)
