use Rattle.std.proofs.Common.{◌≡◌, take}
use Rattle.chc_values.proofs.compare.+same.Given as goal

abbrev pub invariant-same_values-loop-i : goal.invariant-same_values-loop-i
invariant-same_values-loop-i l = take l.i l.xs ≡ take l.i l.ys

abbrev pub invariant-same_entries-loop-i : goal.invariant-same_entries-loop-i
invariant-same_entries-loop-i l = take l.i l.xs ≡ take l.i l.ys
