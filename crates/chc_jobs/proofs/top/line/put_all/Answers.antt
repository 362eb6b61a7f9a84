use Rattle.std.proofs.Common.{rules, length-drop, length-take}
use Rattle.chc_jobs.proofs.Lines.{HasPut-more}
use Rattle.chc_jobs.proofs.top.line.put_all.Goals as goal

pub loop-done-preserved : goal.loop-done-preserved
loop-done-preserved g c =
    (search rules, HasPut-more _ _ _ _ _ _ c.loop-done.invariant.1 c.in_ok-done.ensures.only (search (rules, length-drop, length-take)) c.in_ok-done.ensures.added)
