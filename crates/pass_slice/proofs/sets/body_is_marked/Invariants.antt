use Rattle.std.proofs.Common.{◌≡◌, false, take}
use Rattle.std.specs.List.{list_any}
use Rattle.chc_state.specs.declared.clause.Atom.{Atom}
use Rattle.pass_slice.specs.Tables.{marked}
use Rattle.pass_slice.proofs.sets.body_is_marked.Given as goal

abbrev pub invariant-loop-a : goal.invariant-loop-a
invariant-loop-a l = list_any (λ (a : Atom). marked l.table a.pred) (take l.a-index l.a-items) ≡ false
