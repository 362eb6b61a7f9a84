use Rattle.std.proofs.Common.{◌≡◌, ◌++◌, take}
use Rattle.chc_terms.proofs.sorting.append.Given as goal

abbrev pub invariant-loop-sort : goal.invariant-loop-sort
invariant-loop-sort l = l.bound ≡ l.fn.bound ++ take l.sort-index l.sort-items
