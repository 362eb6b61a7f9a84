use Rattle.std.proofs.Common.{◌≡◌, ◌++◌, drop, map}
use Rattle.std.specs.Prelude.{decimal}
use Rattle.chc_sexpr.specs.Writing.{spaced}
use Rattle.chc_trace.proofs.text.write_numbers.Given as goal

abbrev pub invariant-loop-n : goal.invariant-loop-n
invariant-loop-n l = l.out ++ spaced (map decimal (drop l.n-index l.numbers)) ≡ l.initial.out ++ spaced (map decimal l.numbers)
