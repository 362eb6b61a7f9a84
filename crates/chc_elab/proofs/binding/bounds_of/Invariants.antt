use Rattle.std.proofs.Common.{◌≡◌, map}
use Rattle.chc_elab.specs.Settings.{bound_under}
use Rattle.chc_elab.proofs.binding.bounds_of.Given as goal

abbrev pub invariant-loop-value : goal.invariant-loop-value
invariant-loop-value l = l.bounds ≡ map (bound_under l.variables) l.yielded
