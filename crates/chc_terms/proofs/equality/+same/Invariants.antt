use Rattle.std.proofs.Common.{◌≡◌, drop}
use Rattle.chc_terms.specs.Alike.{same_terms}
use Rattle.chc_terms.proofs.equality.+same.Given as goal

abbrev pub invariant-are_same_terms-loop-i : goal.invariant-are_same_terms-loop-i
invariant-are_same_terms-loop-i l = same_terms (drop l.i l.left) (drop l.i l.right) ≡ same_terms l.left l.right
