use Rattle.term_again.proofs.TermCounts.{plain_binds_none}
use Rattle.term_again.proofs.laws.plain_terms_bind_none.Goals as goal

pub returns : goal.returns
returns c = plain_binds_none
