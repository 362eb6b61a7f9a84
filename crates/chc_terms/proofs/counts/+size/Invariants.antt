use Rattle.std.proofs.Common.{◌≡◌, ◌≤◌, ◌+◌, ◌-◌, ◌^◌, min, drop}
use Rattle.chc_terms.specs.Counts.{size_all as size_of_all}
use Rattle.chc_terms.proofs.counts.+size.Given as goal

abbrev pub invariant-size_all-loop-t : goal.invariant-size_all-loop-t
invariant-size_all-loop-t l = (l.sum ≤ 2 ^ 64 - 1) × (min (l.sum + size_of_all (drop l.t-index l.t-items)) (2 ^ 64 - 1) ≡ min (size_of_all l.ts) (2 ^ 64 - 1))
