use Rattle.std.proofs.Common.{length, ap, arith}
use Rattle.chc_terms.proofs.AlikeLaws.{other_lengths}
use Rattle.chc_terms.proofs.equality.+same.Goals as goal

pub are_same_terms-returns-then-len-others : goal.are_same_terms-returns-then-len-others
are_same_terms-returns-then-len-others t c = other_lengths c.args.left.now c.args.right.now (λ e. omega (arith, ap length c.as_slice-others.ensures))
