use Rattle.std.proofs.Common.{◌<◌, length, append_assoc, arith}
use Rattle.chc_print.specs.Script.{part_texts}
use Rattle.chc_print.proofs.Parts.{parts_length, tail_of_more}
use Rattle.chc_print.proofs.script.write_tail.Goals as goal

pub returns-in_ok-push : goal.returns-in_ok-push
returns-in_ok-push c =
    let parts = part_texts c.args.names.now c.args.clause.now in
    let count = parts_length c.args.names.now c.args.clause.now in
    let more : 1 < length parts = grind (arith, count) in
    let tail = tail_of_more parts more in
    grind (arith, append_assoc, tail)
