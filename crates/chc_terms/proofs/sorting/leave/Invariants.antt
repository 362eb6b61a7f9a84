use Rattle.std.proofs.Common.{◌≡◌, length, take}
use Rattle.chc_terms.proofs.sorting.leave.Given as goal

abbrev pub invariant-loop-bound : goal.invariant-loop-bound
invariant-loop-bound l = take l.count l.bound ≡ take l.count l.fn.bound

abbrev pub decreases-loop-bound : goal.decreases-loop-bound
decreases-loop-bound l = length l.bound
