use Rattle.std.proofs.Common.{◌≡◌, ◌++◌, drop}
use Rattle.chc_state.specs.Refuting.{numbers_where}
use Rattle.pass_slice.specs.Slices.{body_meets}
use Rattle.pass_slice.specs.Tables.{marked}
use Rattle.pass_slice.proofs.unreached.users.Given as goal

abbrev pub invariant-loop-k : goal.invariant-loop-k
invariant-loop-k l = l.numbers ++ numbers_where (body_meets (marked l.table)) l.k (drop l.k l.s.clauses) ≡ numbers_where (body_meets (marked l.table)) 0 l.s.clauses
