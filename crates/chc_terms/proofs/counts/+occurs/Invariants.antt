use Rattle.std.proofs.Common.{◌≡◌, ◌≤◌, ◌+◌, ◌-◌, ◌^◌, min, drop}
use Rattle.chc_terms.specs.Counts.{occurrences_all}
use Rattle.chc_terms.proofs.counts.+occurs.Given as goal

abbrev pub invariant-occurs_all-loop-t : goal.invariant-occurs_all-loop-t
invariant-occurs_all-loop-t l = (l.sum ≤ 2 ^ 64 - 1) × (min (l.sum + occurrences_all l.var (drop l.t-index l.t-items)) (2 ^ 64 - 1) ≡ min (occurrences_all l.var l.ts) (2 ^ 64 - 1))
