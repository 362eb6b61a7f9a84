use Rattle.std.proofs.Common.{◌≡◌, drop, IsTrue, []}
use Rattle.chc_elab.specs.Apart.{are_apart}
use Rattle.chc_elab.specs.Binders.{apart_after, pair_names}
use Rattle.chc_elab.proofs.binding.names_apart.Given as goal

abbrev pub invariant-loop-pair : goal.invariant-loop-pair
invariant-loop-pair l = record {
  same : apart_after l.names (pair_names (drop l.pair-index l.pairs)) ≡ apart_after [] (pair_names l.pairs);
  apart : IsTrue (are_apart l.names);
}
