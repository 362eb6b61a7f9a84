use Rattle.std.proofs.Common.{◌≡◌, ℕ, List, drop}
use Rattle.std.specs.Option.{option_or}
use Rattle.chc_sorts.specs.Names.{look_up}
use Rattle.ans_model.specs.Drafts.{ArePreds, owner_from, pred_number}
use Rattle.ans_model.proofs.target.live_by_name.Given as goal

abbrev pub invariant-loop-p : goal.invariant-loop-p
invariant-loop-p l = record {
  preds : ArePreds l.table;
  found :
      (name : List ℕ) → option_or (pred_number (look_up l.table name)) (owner_from l.p (drop l.p l.names) (drop l.p l.preds) name) ≡ owner_from 0 l.names l.preds name;
}
