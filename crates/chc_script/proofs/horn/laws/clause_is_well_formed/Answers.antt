use Rattle.chc_script.proofs.ClauseForm.{clause_is_well_formed}
use Rattle.chc_script.proofs.horn.laws.clause_is_well_formed.Goals as goal

pub returns : goal.returns
returns c = clause_is_well_formed
