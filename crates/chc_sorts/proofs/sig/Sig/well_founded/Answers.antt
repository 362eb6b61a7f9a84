use Rattle.std.proofs.Common.{subst}
use Rattle.chc_sorts.specs.WellFounded.{IsWellFounded}
use Rattle.chc_sorts.proofs.sig.Sig.well_founded.Goals as goal

pub returns : goal.returns
returns c = subst IsWellFounded c.self.view_is (record { inhabited = c.self.invariant.inhabited; known = c.self.invariant.known })
