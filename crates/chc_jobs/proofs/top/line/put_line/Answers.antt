use Rattle.std.proofs.lemmas.Result.{err_from_is_err_and}
use Rattle.std.specs.Prelude.{◌∷◌, []}
use Rattle.chc_jobs.proofs.Lines.{HasFailed-longer, Puts-then}
use Rattle.chc_jobs.proofs.top.line.put_line.Goals as goal

pub returns-in_err-put_words : goal.returns-in_err-put_words
returns-in_err-put_words g c =
    let p = err_from_is_err_and c.from_residual.result c.from_residual.ensures.1 in rw p.1 (HasFailed-longer _ (10 ∷ []) _ _ c.in_err-put_words.ensures)

pub returns : goal.returns
returns g c = Puts-then _ _ _ _ _ _ c.in_ok-put_words.ensures c.put_all.ensures
