use Rattle.std.proofs.Common.{◌≡◌, ◌≤◌, ◌+◌, ◌^◌, ◌++◌, length, drop, map}
use Rattle.chc_sexpr.specs.Writing.{spaced}
use Rattle.chc_print.specs.Script.{atom_text}
use Rattle.chc_print.proofs.script.write_atoms.Given as goal

abbrev pub invariant-loop-atom : goal.invariant-loop-atom
invariant-loop-atom l =
    (l.under ≤ length l.out + 2 ^ 32) × (l.out ++ spaced (map (atom_text l.names l.under) (drop l.atom-index l.atoms)) ≡ l.initial.out ++ spaced (map (atom_text l.names l.under) l.atoms))
