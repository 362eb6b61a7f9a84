use Rattle.std.proofs.Common.{arith}
use Rattle.chc_terms.proofs.shift_tests.goes_to.Goals as goal

pub shift-requires : goal.shift-requires
shift-requires c = c.in_ok-term.ensures c.args.from c.args.up (omega arith) (omega arith) (omega arith)
