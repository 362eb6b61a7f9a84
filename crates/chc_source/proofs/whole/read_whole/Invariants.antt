use Rattle.std.proofs.Common.{length, ◌<◌, ◌+◌, ◌-◌}
use Rattle.chc_source.proofs.Gathered.{Gathered}
use Rattle.chc_source.proofs.whole.read_whole.Given as goal

abbrev pub invariant-loop-piece : goal.invariant-loop-piece
invariant-loop-piece g l = Gathered l.name l.text l.limit (g.F.Files.outside l.fn.files) (g.F.Files.outside l.files) × (0 < length l.into)

abbrev pub decreases-loop-piece : goal.decreases-loop-piece
decreases-loop-piece g l = l.limit + 1 - length l.text
