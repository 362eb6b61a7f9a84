use Rattle.std.proofs.Common.{List, ℕ, length, ap, ◌∙◌}
use Rattle.std.specs.List.{list_all}
use Rattle.chc_state.specs.declared.clause.PredDecl.{PredDecl}
use Rattle.chc_state.specs.States.{is_live}
use Rattle.pass_slice.proofs.Bounding.{live_inside}
use Rattle.pass_slice.proofs.sets.table_for.Goals as goal

pub table_of-requires : goal.table_of-requires
table_of-requires c =
    let preds = c.args.s.now.preds in
    live_inside preds c.as_slice.result.now c.len.result (c.len.ensures ∙ ap (λ (ds : List PredDecl). length ds) c.preds.ensures.value)
    (ap (λ (ps : List ℕ). list_all (is_live preds) ps) c.as_slice.ensures ∙ c.requires)
