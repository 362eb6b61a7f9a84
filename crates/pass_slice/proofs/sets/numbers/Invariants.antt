use Rattle.std.proofs.Common.{◌≡◌, ◌++◌, drop}
use Rattle.pass_slice.specs.Tables.{places}
use Rattle.pass_slice.proofs.sets.numbers.Given as goal

abbrev pub invariant-loop-i : goal.invariant-loop-i
invariant-loop-i l = l.ps ++ places l.i (drop l.i l.table) ≡ places 0 l.table
