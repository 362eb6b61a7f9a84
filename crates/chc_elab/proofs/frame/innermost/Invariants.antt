use Rattle.std.proofs.Common.{◌≡◌, ◌≤◌, length, take}
use Rattle.chc_elab.specs.Settings.{flat}
use Rattle.chc_elab.specs.Sites.{local_named}
use Rattle.chc_elab.proofs.frame.innermost.Given as goal

abbrev pub invariant-loop-left : goal.invariant-loop-left
invariant-loop-left l = record {
  within : l.left ≤ length l.frames;
  same : local_named (flat l.frames) l.name ≡ local_named (flat (take l.left l.frames)) l.name;
}

abbrev pub decreases-loop-left : goal.decreases-loop-left
decreases-loop-left l = l.left
