use Rattle.std.proofs.Common.{◌<◌, length, append_assoc, arith}
use Rattle.chc_print.specs.Script.{part_texts, head_text}
use Rattle.chc_print.proofs.Parts.{parts_length, implied_by}
use Rattle.chc_print.proofs.script.write_matrix.Goals as goal

pub returns-in_ok-push-2 : goal.returns-in_ok-push-2
returns-in_ok-push-2 c =
    let parts = part_texts c.args.names.now c.args.clause.now in
    let head = head_text c.args.names.now (length c.args.clause.now.vars) c.args.clause.now.head in
    let count = parts_length c.args.names.now c.args.clause.now in
    let some : 0 < length parts = grind (arith, count) in
    let whole = implied_by parts head some in
    grind (arith, append_assoc, whole)
