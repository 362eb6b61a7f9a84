use Rattle.std.proofs.Common.{length, ◌-◌}
use Rattle.chc_source.proofs.Written.{Written}
use Rattle.chc_source.proofs.whole.write_whole.Given as goal

abbrev pub invariant-loop-done : goal.invariant-loop-done
invariant-loop-done g l = Written l.name l.bytes l.done (g.F.Files.outside l.fn.files) (g.F.Files.outside l.files)

abbrev pub decreases-loop-done : goal.decreases-loop-done
decreases-loop-done g l = length l.bytes - l.done
