use Rattle.std.proofs.Common.{◌≡◌, ◌≤◌, ◌+◌, [], length, take, drop}
use Rattle.chc_state.specs.Limits.{filled_after}
use Rattle.chc_state.proofs.limits.filled_in_head_args.Given as goal

abbrev pub invariant-loop-i : goal.invariant-loop-i
invariant-loop-i l = (l.count ≤ l.i) × (l.count + length (filled_after (take l.i l.args) (drop l.i l.args)) ≡ length (filled_after [] l.args))
