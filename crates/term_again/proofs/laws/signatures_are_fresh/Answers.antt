use Rattle.term_again.proofs.FreshSignatures.{made_is_fresh}
use Rattle.term_again.proofs.laws.signatures_are_fresh.Goals as goal

pub returns : goal.returns
returns c = made_is_fresh
