use Rattle.std.proofs.Common.{◌≤◌, length, drop}
use Rattle.chc_steps.proofs.RunLaws.{AllDefsBack}
use Rattle.chc_steps.proofs.generic.back_defs.Given as goal

-- the definitions are those before the steps from `left` on
abbrev pub invariant-loop-left : goal.invariant-loop-left
invariant-loop-left g l = record {
  within : l.left ≤ length l.undos;
  back : AllDefsBack g.P.Pass.after g.P.Pass.stands g.P.Pass.back (drop l.left l.undos) l.fn.d l.made;
}

abbrev pub decreases-loop-left : goal.decreases-loop-left
decreases-loop-left g l = l.left
