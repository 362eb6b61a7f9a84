-- Terms are written as trees that are read, by induction over the term.
use Rattle.term_again.proofs.TermTexts.{terms_are_read_again}
use Rattle.term_again.proofs.laws.all_printed_terms_are_read.Goals as goal

pub returns : goal.returns
returns c = terms_are_read_again
