use Rattle.std.proofs.Common.{ℕ, ◌<◌, not, ◌||◌}
use Rattle.pass_slice.specs.Slices.{body_meets, head_meets}
use Rattle.pass_slice.specs.Tables.{marked, AtPlace}
use Rattle.pass_slice.proofs.unneeded.breaker.Given as goal

abbrev pub invariant-loop-k : goal.invariant-loop-k
invariant-loop-k l = (j : ℕ) → j < l.k → AtPlace (λ c. head_meets (marked l.table) c || not (body_meets (marked l.table) c)) l.s.clauses j
