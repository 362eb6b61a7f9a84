use Rattle.std.proofs.Common.{length, ap, arith}
use Rattle.chc_terms.proofs.AlikeLaws.{other_sort_lengths}
use Rattle.chc_terms.proofs.equality.are_same_sorts.Goals as goal

pub returns-then-len-others : goal.returns-then-len-others
returns-then-len-others c = other_sort_lengths c.args.left.now c.args.right.now (λ e. omega (arith, ap length c.as_slice-others.ensures))
