use Rattle.std.proofs.Common.{◌≡◌, ◌++◌}
use Rattle.chc_print.specs.Values.{store_openings}
use Rattle.chc_print.proofs.value.write_store_openings.Given as goal

abbrev pub invariant-loop : goal.invariant-loop
invariant-loop l = l.out ≡ l.initial.out ++ store_openings l.counter
