use Rattle.std.proofs.Common.{◌≡◌, ◌++◌, drop}
use Rattle.chc_print.specs.Datatypes.{groups_text}
use Rattle.chc_print.proofs.datatypes.write_groups.Given as goal

abbrev pub invariant-loop-size : goal.invariant-loop-size
invariant-loop-size l =
    l.out ++ groups_text l.sig l.reach l.from (drop l.size-index l.size-items) ≡ l.initial.out ++ groups_text l.sig l.reach 0 l.sig.groups
