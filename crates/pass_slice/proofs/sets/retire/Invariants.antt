use Rattle.std.proofs.Common.{◌≡◌, ◌++◌, take, drop}
use Rattle.chc_state.specs.PredSets.{retired}
use Rattle.pass_slice.specs.Tables.{marked}
use Rattle.pass_slice.proofs.sets.retire.Given as goal

abbrev pub invariant-loop-i : goal.invariant-loop-i
invariant-loop-i l = l.decls.items ≡ retired (marked l.table) 0 (take l.i l.fn.preds) ++ drop l.i l.fn.preds
