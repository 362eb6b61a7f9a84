use Rattle.std.proofs.Common.{◌≡◌, map, take}
use Rattle.chc_sorts.specs.Groups.{data_declared}
use Rattle.chc_sorts.proofs.build.declared.Given as goal

abbrev pub invariant-loop-datatype : goal.invariant-loop-datatype
invariant-loop-datatype l = l.made ≡ map (data_declared l.names) (take l.datatype-index l.group)
