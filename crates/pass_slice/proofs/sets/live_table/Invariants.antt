use Rattle.std.proofs.Common.{◌≡◌, map, take}
use Rattle.chc_state.specs.declared.clause.PredDecl.{PredDecl}
use Rattle.pass_slice.proofs.sets.live_table.Given as goal

abbrev pub invariant-loop-d : goal.invariant-loop-d
invariant-loop-d l = l.table.items ≡ map (λ (d : PredDecl). d.live) (take l.d-index l.d-items)
