use Rattle.std.proofs.Common.{◌≡◌, ◌++◌, drop}
use Rattle.ans_model.specs.Drafts.{no_entries}
use Rattle.ans_model.proofs.draft.no_entries.Given as goal

abbrev pub invariant-loop-pred : goal.invariant-loop-pred
invariant-loop-pred l = l.of ++ no_entries (drop l._pred-index l.preds) ≡ no_entries l.preds
