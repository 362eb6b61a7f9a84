use Rattle.term_again.proofs.TermCounts.{binders_hold_theirs}
use Rattle.term_again.proofs.laws.binders_hold_theirs.Goals as goal

pub returns : goal.returns
returns c = binders_hold_theirs
