use Rattle.std.proofs.Common.{◌≡◌, map, take}
use Rattle.pass_slice.specs.Undos.{removed_from}
use Rattle.pass_slice.proofs.sliced.removed_preds.Given as goal

abbrev pub invariant-loop-p : goal.invariant-loop-p
invariant-loop-p l = l.removed ≡ map (removed_from l.s) (take l.p-index l.ps)
