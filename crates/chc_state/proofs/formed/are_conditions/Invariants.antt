use Rattle.std.proofs.Common.{◌≡◌, drop}
use Rattle.std.specs.List.{list_all}
use Rattle.chc_state.specs.Sorts.{is_condition}
use Rattle.chc_state.proofs.formed.are_conditions.Given as goal

abbrev pub invariant-loop-t : goal.invariant-loop-t
invariant-loop-t l = list_all (is_condition l.sig l.vars) (drop l.t-index l.terms) ≡ list_all (is_condition l.sig l.vars) l.terms
