use Rattle.std.proofs.Common.{ℕ, ◌<◌}
use Rattle.pass_slice.specs.Voids.{CanVoid}
use Rattle.pass_slice.proofs.void.find.Given as goal

abbrev pub invariant-loop-k : goal.invariant-loop-k
invariant-loop-k l = (j : ℕ) → j < l.k → CanVoid l.s j → ⊥
