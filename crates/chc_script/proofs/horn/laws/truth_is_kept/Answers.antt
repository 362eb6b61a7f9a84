use Rattle.chc_script.proofs.HornKept.{keeps_truth}
use Rattle.chc_script.proofs.horn.laws.truth_is_kept.Goals as goal

pub returns : goal.returns
returns c = keeps_truth
