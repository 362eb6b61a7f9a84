use Rattle.std.proofs.Common.{sym}
use Rattle.chc_script.proofs.SpellableTrees.{group_spellable}
use Rattle.chc_script.proofs.whole.command.declare_datatypes_parts.Goals as goal

pub declare_group-requires-clause-heads : goal.declare_group-requires-clause-heads
declare_group-requires-clause-heads c = group_spellable c.args.heads.now c.in-Some.heads.now c.requires.heads (sym c.in-Some.ensures)

pub declare_group-requires-clause-bodies : goal.declare_group-requires-clause-bodies
declare_group-requires-clause-bodies c = group_spellable c.args.bodies.now c.in-Some-group_of.bodies.now c.requires.bodies (sym c.in-Some-group_of.ensures)
