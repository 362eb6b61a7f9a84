use Rattle.chc_script.proofs.HornKept.{true_of_clause}
use Rattle.chc_script.proofs.horn.laws.assertion_of_true_clause.Goals as goal

pub returns : goal.returns
returns c = true_of_clause
