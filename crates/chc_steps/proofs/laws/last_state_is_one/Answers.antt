use Rattle.std.proofs.Common.{sym}
use Rattle.chc_steps.specs.Kinds.{IsLegal, after}
use Rattle.chc_steps.proofs.RunLaws.{Goes-last}
use Rattle.chc_steps.proofs.laws.last_state_is_one.Goals as goal

pub returns : goal.returns
returns c = λ s z xs goes. sym (Goes-last after IsLegal s xs z goes)
