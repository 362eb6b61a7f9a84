use Rattle.std.proofs.Common.{◌≡◌, ◌<◌, ℕ, true, length}
use Rattle.chc_sorts.specs.Marks.{is_marked}
use Rattle.chc_sorts.proofs.marks.first_marks.Given as goal

abbrev pub invariant-loop-d : goal.invariant-loop-d
invariant-loop-d l = (length l.marks.items ≡ l.d) × ((d : ℕ) → is_marked l.marks.items d ≡ true → d < l.known)
