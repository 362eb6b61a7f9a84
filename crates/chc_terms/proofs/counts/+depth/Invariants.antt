use Rattle.std.proofs.Common.{◌≡◌, ◌≤◌, ◌-◌, ◌^◌, min, max, drop}
use Rattle.chc_terms.specs.Counts.{depth_all as depth_of_all}
use Rattle.chc_terms.proofs.counts.+depth.Given as goal

abbrev pub invariant-depth_all-loop-t : goal.invariant-depth_all-loop-t
invariant-depth_all-loop-t l = (l.greatest ≤ 2 ^ 64 - 1) × (min (max l.greatest (depth_of_all (drop l.t-index l.t-items))) (2 ^ 64 - 1) ≡ min (depth_of_all l.ts) (2 ^ 64 - 1))
