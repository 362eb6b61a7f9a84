-- A tree is read as a term exactly where it stands for it.
use Rattle.chc_elab.proofs.ExactLaws.{read_where_stands}
use Rattle.chc_elab.proofs.laws.what_is_answered_stands.Goals as goal

pub returns : goal.returns
returns c = read_where_stands
