use Rattle.term_again.proofs.TermCounts.{text_holds_bound}
use Rattle.term_again.proofs.laws.texts_hold_bound.Goals as goal

pub returns : goal.returns
returns c = text_holds_bound
