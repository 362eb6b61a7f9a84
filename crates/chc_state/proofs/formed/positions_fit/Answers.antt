use Rattle.std.proofs.Common.{◌≡◌, ap, sym, ◌∙◌}
use Rattle.std.specs.List.{list_all}
use Rattle.chc_sorts.specs.Sorts.{sort_fits}
use Rattle.chc_state.specs.declared.clause.PredDecl.{PredDecl}
use Rattle.chc_state.proofs.Forming.{positions_fit-each}
use Rattle.chc_state.proofs.formed.positions_fit.Goals as goal

pub returns : goal.returns
returns c =
    let sig = c.args.sig.now in
    c.each_fits.ensures ∙ ap (list_all (λ (d : PredDecl). list_all (sort_fits sig) d.sorts)) c.as_slice.ensures ∙ sym (positions_fit-each sig c.args.preds.now)
