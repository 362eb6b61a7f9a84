use Rattle.chc_steps.specs.Kinds.{IsLegal, after}
use Rattle.chc_steps.proofs.RunLaws.{none_refused}
use Rattle.chc_steps.proofs.laws.no_legal_step_is_refused.Goals as goal

pub returns : goal.returns
returns c = λ s z xs. none_refused after IsLegal s xs z
