use Rattle.chc_steps.proofs.KindLaws.{void_applied, unreached_applied, unneeded_applied}
use Rattle.chc_steps.proofs.any.AnyPassPass.apply.Goals as goal

pub returns-in_ok-z-in-Void-clause-applied : goal.returns-in_ok-z-in-Void-clause-applied
returns-in_ok-z-in-Void-clause-applied c = rw c.in-Void.is (void_applied c.args.s c.in-Void.k c.in_ok-z-in-Void.z c.in_ok-z-in-Void.ensures.applied)

pub returns-in_ok-z-in-Unreached-clause-applied : goal.returns-in_ok-z-in-Unreached-clause-applied
returns-in_ok-z-in-Unreached-clause-applied c =
    rw c.in-Unreached.is (unreached_applied c.args.s c.in-Unreached.ps c.in_ok-z-in-Unreached.z c.in_ok-z-in-Unreached.ensures.applied)

pub returns-in_ok-z-in-Unneeded-clause-applied : goal.returns-in_ok-z-in-Unneeded-clause-applied
returns-in_ok-z-in-Unneeded-clause-applied c =
    rw c.in-Unneeded.is (unneeded_applied c.args.s c.in-Unneeded.ps c.in_ok-z-in-Unneeded.z c.in_ok-z-in-Unneeded.ensures.applied)
