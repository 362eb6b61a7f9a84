use Rattle.std.proofs.Common.{◌≡◌, ℕ, List, take}
use Rattle.chc_sorts.specs.Names.{has_name}
use Rattle.chc_print.proofs.helpers.table_of.Given as goal

abbrev pub invariant-loop-name : goal.invariant-loop-name
invariant-loop-name l = (name : List ℕ) → has_name l.table name ≡ has_name (take l.name-index l.names) name
