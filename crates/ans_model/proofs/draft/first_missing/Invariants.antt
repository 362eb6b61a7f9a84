use Rattle.std.proofs.Common.{◌≡◌, drop}
use Rattle.ans_model.specs.Drafts.{missing_from}
use Rattle.ans_model.proofs.draft.first_missing.Given as goal

abbrev pub invariant-loop-p : goal.invariant-loop-p
invariant-loop-p l = missing_from l.of l.p (drop l.p l.preds) ≡ missing_from l.of 0 l.preds
