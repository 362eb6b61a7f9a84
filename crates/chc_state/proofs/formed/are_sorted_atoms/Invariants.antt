use Rattle.std.proofs.Common.{◌≡◌, drop}
use Rattle.std.specs.List.{list_all}
use Rattle.chc_state.specs.Sorts.{is_sorted_atom, positions}
use Rattle.chc_state.proofs.formed.are_sorted_atoms.Given as goal

abbrev pub invariant-loop-atom : goal.invariant-loop-atom
invariant-loop-atom l =
    list_all (is_sorted_atom l.sig (positions l.preds) l.vars) (drop l.atom-index l.atoms) ≡ list_all (is_sorted_atom l.sig (positions l.preds) l.vars) l.atoms
