use Rattle.std.proofs.Common.{take}
use Rattle.chc_sorts.specs.Checks.{HaveSameNames}
use Rattle.chc_sorts.proofs.taken.table_of.Given as goal

abbrev pub invariant-loop-name : goal.invariant-loop-name
invariant-loop-name l = HaveSameNames l.table (take l.name-index l.names)
