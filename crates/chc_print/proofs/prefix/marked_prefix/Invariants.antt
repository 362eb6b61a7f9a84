use Rattle.std.proofs.Common.{◌≡◌}
use Rattle.chc_print.specs.Prefix.{marked}
use Rattle.chc_print.proofs.prefix.marked_prefix.Given as goal

abbrev pub invariant-loop : goal.invariant-loop
invariant-loop l = l.prefix ≡ marked l.counter
