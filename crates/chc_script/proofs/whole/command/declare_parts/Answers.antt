use Rattle.std.proofs.Common.{sym}
use Rattle.chc_script.proofs.SpellableTrees.{symbol_writable}
use Rattle.chc_script.proofs.whole.command.declare_parts.Goals as goal

pub declare-requires : goal.declare-requires
declare-requires c = symbol_writable c.args.name.now c.in-Some.name.now c.requires (sym c.in-Some.ensures)
