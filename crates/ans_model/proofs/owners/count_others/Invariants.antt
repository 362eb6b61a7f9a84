use Rattle.std.proofs.Common.{◌≡◌, ◌≤◌, ◌+◌, drop}
use Rattle.std.specs.Prelude.{count_by, is_none}
use Rattle.ans_model.proofs.owners.count_others.Given as goal

abbrev pub invariant-loop-owner : goal.invariant-loop-owner
invariant-loop-owner l = record {
  counted : l.count + count_by is_none (drop l.owner-index l.owners) ≡ count_by is_none l.owners;
  few : l.count ≤ l.owner-index;
}
