use Rattle.std.proofs.Common.{◌≡◌, max, drop, map}
use Rattle.chc_terms.specs.Counts.{greatest}
use Rattle.chc_print.specs.Reach.{atom_reach}
use Rattle.chc_print.proofs.reach.atoms_reach.Given as goal

abbrev pub invariant-loop-atom : goal.invariant-loop-atom
invariant-loop-atom l = max l.most (greatest (map atom_reach (drop l.atom-index l.atoms))) ≡ greatest (map atom_reach l.atoms)
