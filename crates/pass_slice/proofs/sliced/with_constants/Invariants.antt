use Rattle.std.proofs.Common.{◌≡◌, drop, length}
use Rattle.pass_slice.specs.Undos.{with_removed}
use Rattle.pass_slice.proofs.sliced.with_constants.Given as goal

abbrev pub invariant-loop-x : goal.invariant-loop-x
invariant-loop-x l = record {
  long : length l.defs.of ≡ length l.fn.d.of;
  same : with_removed l.truth (drop l.x-index l.removed) l.defs ≡ with_removed l.truth l.removed l.fn.d;
}
