-- What stands is read, by recursion over why it stands.
use Rattle.chc_elab.proofs.StandsRead.{stands_read}
use Rattle.chc_elab.proofs.laws.what_stands_is_read.Goals as goal

pub returns : goal.returns
returns c = stands_read
