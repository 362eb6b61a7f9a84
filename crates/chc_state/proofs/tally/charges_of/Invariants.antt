use Rattle.std.proofs.Common.{◌≡◌, ◌≤◌, ◌+◌, ◌-◌, ◌^◌, ◌||◌, nat_lt, min, drop, sum_by}
use Rattle.std.specs.List.{list_any}
use Rattle.chc_state.specs.Limits.{charge}
use Rattle.chc_state.proofs.tally.charges_of.Given as goal

abbrev pub invariant-loop-clause : goal.invariant-loop-clause
invariant-loop-clause l =
    ((l.one_above || list_any (λ c. nat_lt 262144 (charge c)) (drop l.clause-index l.clause-items)) ≡ list_any (λ c. nat_lt 262144 (charge c)) l.clauses)
    × (l.sum ≤ 2 ^ 64 - 1)
    × (min (l.sum + sum_by charge (drop l.clause-index l.clause-items)) (2 ^ 64 - 1) ≡ min (sum_by charge l.clauses) (2 ^ 64 - 1))
