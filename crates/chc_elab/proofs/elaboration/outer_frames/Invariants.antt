use Rattle.std.proofs.Common.{◌≡◌, ◌++◌, drop}
use Rattle.chc_elab.specs.Binders.{variables_from}
use Rattle.chc_elab.proofs.elaboration.outer_frames.Given as goal

abbrev pub invariant-loop-i : goal.invariant-loop-i
invariant-loop-i l = l.layers ++ variables_from l.i (drop l.i l.names) (drop l.i l.sorts) ≡ variables_from 0 l.names l.sorts
