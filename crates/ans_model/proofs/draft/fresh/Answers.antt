use Rattle.std.proofs.Common.{ap, ◌∙◌}
use Rattle.ans_model.specs.Drafts.{no_entries}
use Rattle.ans_model.proofs.DraftLaws.{fresh_from}
use Rattle.ans_model.proofs.draft.fresh.Goals as goal

pub returns-clause-drafted : goal.returns-clause-drafted
returns-clause-drafted c =
    fresh_from c.args.target.now c.new.result c.new-2.result c.in_ok-of.of c.new.ensures c.new-2.ensures
    (c.in_ok-of.ensures ∙ ap no_entries (c.as_slice.ensures ∙ c.preds.ensures))
