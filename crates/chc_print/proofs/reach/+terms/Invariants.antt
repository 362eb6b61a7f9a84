use Rattle.std.proofs.Common.{◌≡◌, max, drop}
use Rattle.chc_print.specs.Reach.{terms_reach}
use Rattle.chc_print.proofs.reach.+terms.Given as goal

abbrev pub invariant-terms_reach-loop-term : goal.invariant-terms_reach-loop-term
invariant-terms_reach-loop-term l = max l.most (terms_reach (drop l.term-index l.terms)) ≡ terms_reach l.terms
