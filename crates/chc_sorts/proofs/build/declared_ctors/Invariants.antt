use Rattle.std.proofs.Common.{◌≡◌, map, take}
use Rattle.chc_sorts.specs.Groups.{ctor_declared}
use Rattle.chc_sorts.proofs.build.declared_ctors.Given as goal

abbrev pub invariant-loop-ctor : goal.invariant-loop-ctor
invariant-loop-ctor l = l.made ≡ map (ctor_declared l.names) (take l.ctor-index l.ctors)
