use Rattle.std.proofs.Common.{sym, ◌∙◌}
use Rattle.std.proofs.lemmas.Result.{err_from_is_err_and}
use Rattle.std.specs.Prelude.{codes}
use Rattle.chc_sexpr.specs.Symbols.{symbol_text}
use Rattle.chc_jobs.proofs.Lines.{HasPut-then, HasFailed-longer, HasPut-fails, Puts-then}
use Rattle.chc_jobs.proofs.Reasons.{named_reason}
use Rattle.chc_jobs.proofs.top.line.put_reason.Goals as goal

pub returns-in_err-put_all : goal.returns-in_err-put_all
returns-in_err-put_all g c =
    let p = err_from_is_err_and c.from_residual.result c.from_residual.ensures.1 in
    let text = named_reason c.args.fault.now (sym c.is_about_name.ensures ∙ c.if-not-is_about_name.false) in
    let failed = rw c.name-2.ensures at c.in_err-put_all.ensures in
    rw (p.1, text) (HasFailed-longer _ (symbol_text c.args.fault.now.name) _ _ (HasFailed-longer _ (codes " ") _ _ failed))

pub returns-in_err-put_all-2 : goal.returns-in_err-put_all-2
returns-in_err-put_all-2 g c =
    let p = err_from_is_err_and c.from_residual-in_err-put_all-2.result c.from_residual-in_err-put_all-2.ensures.1 in
    let text = named_reason c.args.fault.now (sym c.is_about_name.ensures ∙ c.if-not-is_about_name.false) in
    let named = rw c.name-2.ensures at c.in_ok-put_all.ensures in
    rw (p.1, text) (HasFailed-longer _ (symbol_text c.args.fault.now.name) _ _ (HasPut-fails _ _ _ _ _ named c.in_err-put_all-2.ensures))

pub returns : goal.returns
returns g c =
    let text = named_reason c.args.fault.now (sym c.is_about_name.ensures ∙ c.if-not-is_about_name.false) in
    let named = rw c.name-2.ensures at c.in_ok-put_all.ensures in
    let symbol = rw c.bytes.ensures at c.put_symbol.ensures in
    rw text (Puts-then _ _ _ _ _ _ (HasPut-then _ _ _ _ _ named c.in_ok-put_all-2.ensures) symbol)
