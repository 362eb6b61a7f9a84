use Rattle.chc_terms.proofs.JudgedExactly.{judges_exactly}
use Rattle.chc_terms.proofs.sorting.judged_exactly.Goals as goal

pub returns : goal.returns
returns c = judges_exactly
