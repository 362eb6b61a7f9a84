use Rattle.std.proofs.Common.{arith}
use Rattle.chc_sorts.proofs.SameSort.{other_lengths}
use Rattle.chc_sorts.proofs.sort.same_sorts.Goals as goal

pub returns-then-left-right : goal.returns-then-left-right
returns-then-left-right c = other_lengths c.args.left.now c.args.right.now (λ e. omega arith)
