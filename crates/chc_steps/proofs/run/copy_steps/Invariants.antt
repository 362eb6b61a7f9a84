use Rattle.std.proofs.Common.{◌≡◌, take}
use Rattle.chc_steps.proofs.run.copy_steps.Given as goal

-- the copies of the steps so far
abbrev pub invariant-loop-step : goal.invariant-loop-step
invariant-loop-step l = l.copies ≡ take l.step-index l.steps
