use Rattle.std.proofs.Common.{◌≡◌, ◌++◌, drop}
use Rattle.chc_print.proofs.prefix.add_names.Given as goal

abbrev pub invariant-loop-name : goal.invariant-loop-name
invariant-loop-name l = l.used ++ drop l.name-index l.names ≡ l.initial.used ++ l.names
