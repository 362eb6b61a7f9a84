use Rattle.std.proofs.Common.{◌≡◌, ℕ, length, take}
use Rattle.chc_state.specs.PredSets.{set_of}
use Rattle.pass_slice.specs.Tables.{marked}
use Rattle.pass_slice.proofs.sets.table_of.Given as goal

abbrev pub invariant-loop-p : goal.invariant-loop-p
invariant-loop-p l = record {
  long : length l.table.items ≡ l.size;
  same : (p : ℕ) → marked l.table.items p ≡ set_of (take l.p-index l.ps) p;
}
