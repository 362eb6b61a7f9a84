use Rattle.std.proofs.Common.{map, length, append_assoc, arith}
use Rattle.chc_print.specs.Texts.{term_texts}
use Rattle.chc_print.specs.Script.{atom_text}
use Rattle.chc_print.proofs.Parts.{spaced_append}
use Rattle.chc_print.proofs.script.write_parts.Goals as goal

pub returns : goal.returns
returns c =
    let under = length c.args.clause.now.vars in
    let joins = spaced_append (map (atom_text c.args.names.now under) c.args.clause.now.body) (term_texts c.args.names.now under c.args.clause.now.conj) in
    grind (arith, append_assoc, joins)
