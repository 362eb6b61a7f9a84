use Rattle.term_again.proofs.TermBounds.{written_is_near}
use Rattle.term_again.proofs.laws.written_terms_are_near.Goals as goal

pub returns : goal.returns
returns c = written_is_near
