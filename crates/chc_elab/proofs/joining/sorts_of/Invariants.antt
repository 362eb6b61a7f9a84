use Rattle.std.proofs.Common.{◌≡◌, map, take}
use Rattle.chc_elab.proofs.joining.sorts_of.Given as goal

abbrev pub invariant-loop-arg : goal.invariant-loop-arg
invariant-loop-arg l = l.sorts ≡ map (λ t. t.sort) (take l.arg-index l.args)
