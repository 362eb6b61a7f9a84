-- A tree stands for one term at most, by recursion over why it stands for the first.
use Rattle.chc_elab.proofs.OnlyOne.{stands_for_one}
use Rattle.chc_elab.proofs.laws.what_stands_is_one.Goals as goal

pub returns : goal.returns
returns c = stands_for_one
