use Rattle.chc_steps.specs.Kinds.{after, IsTurned, Exceeds}
use Rattle.chc_steps.proofs.KindLaws.{one_turned}
use Rattle.chc_steps.proofs.RunLaws.{one_turned_over, turned_in_range}
use Rattle.chc_steps.proofs.laws.way_back_is_one.Goals as goal

pub returns-clause-one : goal.returns-clause-one
returns-clause-one c = λ s xs w r. one_turned_over after IsTurned Exceeds one_turned w r s xs

pub returns-clause-in_range : goal.returns-clause-in_range
returns-clause-in_range c = λ s xs w r e k n. turned_in_range after IsTurned Exceeds one_turned w r s xs e k n
