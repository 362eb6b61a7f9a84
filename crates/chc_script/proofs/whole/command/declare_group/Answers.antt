use Rattle.std.proofs.Common.{sym}
use Rattle.chc_script.proofs.WritableGroups.{group_writable}
use Rattle.chc_script.proofs.whole.command.declare_group.Goals as goal

pub add_group-requires : goal.add_group-requires
add_group-requires c =
    rw c.as_slice.ensures
    (record { writable = group_writable c.args.place c.args.heads.now c.args.bodies.now c.in_ok-group.group c.requires.heads c.requires.bodies (sym c.in_ok-group.ensures) })
