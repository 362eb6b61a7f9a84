use Rattle.std.proofs.Common.{◌≡◌, ◌++◌, map, take, drop}
use Rattle.chc_state.specs.Refuting.{number_before, numbered}
use Rattle.pass_slice.proofs.sliced.renumber.Given as goal

abbrev pub invariant-loop-i : goal.invariant-loop-i
invariant-loop-i l = l.items.items ≡ map (numbered (number_before l.gone)) (take l.i l.fn.steps) ++ drop l.i l.fn.steps
