use Rattle.std.proofs.Common.{◌≡◌, ◌++◌, drop, length, true, Ok}
use Rattle.chc_elab.specs.Binders.{are_pairs, sorts_of_trees, second_trees}
use Rattle.chc_elab.specs.Sites.{◌>>>◌}
use Rattle.ans_model.specs.Defining.{setting_of}
use Rattle.ans_model.proofs.params.read_sorts.Given as goal

abbrev pub invariant-loop-pair : goal.invariant-loop-pair
invariant-loop-pair l = record {
  same :
      (sorts_of_trees (setting_of l.declared) (second_trees (drop l.pair-index l.pairs)) >>> (λ rest. Ok (l.sorts ++ rest)))
      ≡ sorts_of_trees (setting_of l.declared) (second_trees l.pairs);
  pairs : are_pairs (drop l.pair-index l.pairs) ≡ true;
  count : length l.sorts ≡ l.pair-index;
}
