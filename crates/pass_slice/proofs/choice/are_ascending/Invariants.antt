use Rattle.std.proofs.Common.{◌≡◌, drop}
use Rattle.chc_state.specs.PredSets.{is_ascending}
use Rattle.pass_slice.proofs.Ascending.{rises}
use Rattle.pass_slice.proofs.choice.are_ascending.Given as goal

abbrev pub invariant-loop-p : goal.invariant-loop-p
invariant-loop-p l = rises l.least (drop l.p-index l.ps) ≡ is_ascending l.ps
