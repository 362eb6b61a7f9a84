use Rattle.std.proofs.Common.{sym}
use Rattle.chc_script.proofs.WritableGroups.{single_writable}
use Rattle.chc_script.proofs.whole.command.declare_single.Goals as goal

pub add_group-requires : goal.add_group-requires
add_group-requires c =
    rw c.as_slice.ensures
    (record { writable = single_writable c.args.place c.args.name.now c.args.body.now c.in_ok-group.group c.requires.name c.requires.body (sym c.in_ok-group.ensures) })
