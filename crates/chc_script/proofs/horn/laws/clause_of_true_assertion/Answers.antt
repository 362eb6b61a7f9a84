use Rattle.chc_script.proofs.HornKept.{clause_of_true}
use Rattle.chc_script.proofs.horn.laws.clause_of_true_assertion.Goals as goal

pub returns : goal.returns
returns c = clause_of_true
