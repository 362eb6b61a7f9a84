use Rattle.std.proofs.Common.{◌≡◌, ◌++◌, drop}
use Rattle.chc_sexpr.specs.Writing.{spaced}
use Rattle.chc_print.specs.Values.{value_texts, entry_texts, store_endings}
use Rattle.chc_print.proofs.value.+values.Given as goal

abbrev pub invariant-write_values-loop-value : goal.invariant-write_values-loop-value
invariant-write_values-loop-value l =
    l.out ++ spaced (value_texts l.sig (drop l.value-index l.values)) ≡ l.initial.out ++ spaced (value_texts l.sig l.values)

abbrev pub invariant-write_store_endings-loop-exception : goal.invariant-write_store_endings-loop-exception
invariant-write_store_endings-loop-exception l =
    l.out ++ store_endings (entry_texts l.sig (drop l.exception-index l.exception-items)) ≡ l.initial.out ++ store_endings (entry_texts l.sig l.exceptions)
