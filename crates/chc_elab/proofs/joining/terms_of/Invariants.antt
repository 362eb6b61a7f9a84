use Rattle.std.proofs.Common.{◌≡◌, map}
use Rattle.chc_elab.proofs.joining.terms_of.Given as goal

abbrev pub invariant-loop-arg : goal.invariant-loop-arg
invariant-loop-arg l = l.terms ≡ map (λ t. t.term) l.yielded
