use Rattle.std.proofs.Common.{◌∙◌, ap, cond, None, Some, subst, sym}
use Rattle.std.specs.Option.{option_or}
use Rattle.std.specs.Str.{bytes_eq}
use Rattle.chc_sorts.specs.Names.{look_up}
use Rattle.ans_model.specs.Drafts.{ArePreds, pred_number}
use Rattle.ans_model.proofs.TargetLaws.{number_more, preds_more}
use Rattle.ans_model.proofs.target.add_once.Goals as goal

pub returns-clause-preds : goal.returns-clause-preds
returns-clause-preds c =
    subst ArePreds (sym c.in_ok-add.ensures.added) (preds_more c.args.table.now c.in_ok-name_of.field-0 c.args.p c.in_ok-copy_sorts.field-0 c.requires)

pub returns-clause-added : goal.returns-clause-added
returns-clause-added c = λ other.
    ap (λ t. pred_number (look_up t other)) c.in_ok-add.ensures.added
    ∙ number_more c.args.table.now c.in_ok-name_of.field-0 other c.args.p c.in_ok-copy_sorts.field-0 c.requires
    ∙ ap (λ n. option_or (pred_number (look_up c.args.table.now other)) (cond (bytes_eq n other) (Some c.args.p) None)) c.in_ok-name_of.ensures
