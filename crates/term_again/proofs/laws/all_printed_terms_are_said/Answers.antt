-- Terms are written as trees that stand for them, by induction over the term.
use Rattle.term_again.proofs.TermTexts.{terms_are_said_again}
use Rattle.term_again.proofs.laws.all_printed_terms_are_said.Goals as goal

pub returns : goal.returns
returns c = terms_are_said_again
