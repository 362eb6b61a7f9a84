use Rattle.std.proofs.Common.{◌≡◌, take}
use Rattle.chc_terms.proofs.term.+copy.Given as goal

abbrev pub invariant-copy_terms-loop-t : goal.invariant-copy_terms-loop-t
invariant-copy_terms-loop-t l = l.copies ≡ take l.t-index l.t-items
