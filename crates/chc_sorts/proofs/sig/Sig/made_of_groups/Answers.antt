use Rattle.std.proofs.Common.{subst}
use Rattle.chc_sorts.specs.Made.{CanBeMade}
use Rattle.chc_sorts.proofs.sig.Sig.made_of_groups.Goals as goal

pub returns : goal.returns
returns c = subst CanBeMade c.self.view_is c.self.invariant.made
