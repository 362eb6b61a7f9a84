-- What is read stands, by induction over the tree.
use Rattle.chc_elab.proofs.ReadStands.{read_stands}
use Rattle.chc_elab.proofs.laws.what_is_read_stands.Goals as goal

pub returns : goal.returns
returns c = read_stands
