use Rattle.std.proofs.Common.{◌≤◌, length, drop, Ok}
use Rattle.chc_steps.proofs.RunLaws.{AllTurnOver}
use Rattle.chc_steps.proofs.generic.back_steps.Given as goal

-- the steps are those before the steps of the run from `left` on
abbrev pub invariant-loop-left : goal.invariant-loop-left
invariant-loop-left g l = record {
  within : l.left ≤ length l.undos;
  back : AllTurnOver g.P.Pass.after g.P.Pass.stands l.w l.fn.r g.P.Pass.turned g.P.Pass.exceeds (drop l.left l.undos) (Ok l.made);
}

abbrev pub decreases-loop-left : goal.decreases-loop-left
decreases-loop-left g l = l.left
