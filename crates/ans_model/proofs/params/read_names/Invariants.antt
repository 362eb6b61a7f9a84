use Rattle.std.proofs.Common.{◌≡◌, drop, length, true, []}
use Rattle.chc_elab.specs.Binders.{apart_after, are_pairs, pair_names}
use Rattle.ans_model.proofs.params.read_names.Given as goal

abbrev pub invariant-loop-pair : goal.invariant-loop-pair
invariant-loop-pair l = record {
  tabled : l.table ≡ l.names;
  same : apart_after l.names (pair_names (drop l.pair-index l.pairs)) ≡ apart_after [] (pair_names l.pairs);
  pairs : are_pairs (drop l.pair-index l.pairs) ≡ true;
  count : length l.names ≡ l.pair-index;
}
