use Rattle.std.proofs.Common.{◌≤◌, length, arith}
use Rattle.std.proofs.lemmas.List.Folds.{list_any_more}
use Rattle.chc_print.specs.Prefix.{begins_numbered, marked}
use Rattle.chc_print.proofs.Marks.{too_short}
use Rattle.chc_print.proofs.prefix.longest.Goals as goal
use Rattle.chc_print.proofs.prefix.longest.Goals.{then-most-len, else-most-len}

pub loop-name-preserved : goal.loop-name-preserved
loop-name-preserved c = λ k high.
    let name = c.name-item.result in
    let before : c.loop-name.most ≤ k = elim c.if-most-len.branch [ then-most-len w ↦ omega arith | else-most-len w ↦ omega arith ] in
    let short : length name ≤ k = elim c.if-most-len.branch [ then-most-len w ↦ omega arith | else-most-len w ↦ omega arith ] in
    let earlier = c.loop-name.invariant k before in
    let this = too_short k name short in
    let step = list_any_more (begins_numbered (marked k)) c.args.names.now c.loop-name.name-index name (omega arith) in
    grind (arith, step, earlier, this, c.name-item.is)
