use Rattle.std.proofs.Common.{◌-◌, ◌≤◌, length, take}
use Rattle.chc_jobs.specs.Lines.{HasPut}
use Rattle.chc_jobs.proofs.top.line.put_all.Given as goal

-- the bytes before `done` were put
abbrev pub invariant-loop-done : goal.invariant-loop-done
invariant-loop-done g l = (l.done ≤ length l.bytes) × HasPut (take l.done l.bytes) (g.K.Sink.output l.initial.say) (g.K.Sink.output l.say)

abbrev pub decreases-loop-done : goal.decreases-loop-done
decreases-loop-done g l = length l.bytes - l.done
