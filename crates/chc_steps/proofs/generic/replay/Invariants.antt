use Rattle.std.proofs.Common.{take}
use Rattle.chc_steps.specs.Runs.{IsRun}
use Rattle.chc_steps.proofs.generic.replay.Given as goal

-- the choices so far lead to the state
abbrev pub invariant-loop-i : goal.invariant-loop-i
invariant-loop-i g l = IsRun g.P.Pass.after g.P.Pass.stands g.P.Pass.legal l.fn.s (take l.i l.choices) l.undos l.state
