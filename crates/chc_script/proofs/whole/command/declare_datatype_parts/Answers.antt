use Rattle.std.proofs.Common.{sym}
use Rattle.chc_script.proofs.SpellableTrees.{symbol_writable}
use Rattle.chc_script.proofs.whole.command.declare_datatype_parts.Goals as goal

pub declare_single-requires-clause-name : goal.declare_single-requires-clause-name
declare_single-requires-clause-name c = symbol_writable c.args.name.now c.in-Some.name.now c.requires.name (sym c.in-Some.ensures)
