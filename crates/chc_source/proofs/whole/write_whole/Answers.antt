use Rattle.chc_source.proofs.Written.{written_on}
use Rattle.chc_source.proofs.whole.write_whole.Goals as goal

pub loop-done-preserved : goal.loop-done-preserved
loop-done-preserved g c =
    written_on _ _ _ _ _ _ _ c.loop-done.invariant c.in_ok-done.ensures.count.1 c.in_ok-done.ensures.added c.append.ensures.only
