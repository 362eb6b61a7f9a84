use Rattle.std.proofs.Common.{◌≡◌, ◌≤◌, ◌++◌, drop}
use Rattle.ans_model.specs.Texts.{called}
use Rattle.ans_model.proofs.owners.names_by_owners.Given as goal

abbrev pub invariant-loop-owner : goal.invariant-loop-owner
invariant-loop-owner l = record {
  made : l.calls ++ called l.preds l.lifts l.others (drop l.owner-index l.owners) ≡ called l.preds l.lifts 0 l.owners;
  few : l.others ≤ l.owner-index;
}
