use Rattle.std.proofs.Common.{◌≡◌, None, ap, sym, ◌∙◌}
use Rattle.ans_model.specs.Drafts.{missing_from}
use Rattle.ans_model.proofs.DraftLaws.{told_defines}
use Rattle.ans_model.proofs.draft.finish.Goals as goal

pub returns-clause-defines : goal.returns-clause-defines
returns-clause-defines c =
    let none : missing_from c.args.draft.defs.of 0 c.args.target.now.state.preds ≡ None =
    ap (missing_from c.args.draft.defs.of 0) (sym (c.as_slice.ensures ∙ c.preds.ensures)) ∙ sym c.first_missing.ensures ∙ c.in-None.is in
    told_defines c.args.target.now c.args.place c.args.draft c.hold.result c.requires none c.hold.ensures
