use Rattle.std.proofs.Common.{◌≡◌, ◌++◌, length}
use Rattle.std.specs.Vec.Iter.{into_iter_items}
use Rattle.chc_elab.specs.Building.{negated_before_last}
use Rattle.chc_elab.proofs.operation.implication.Given as goal

abbrev pub invariant-loop-term : goal.invariant-loop-term
invariant-loop-term l = record {
  made : l.pile ++ negated_before_last (into_iter_items l.term-iterator) ≡ negated_before_last l.fn.terms;
  left : l.left ≡ length (into_iter_items l.term-iterator);
}
