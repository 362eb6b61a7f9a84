use Rattle.std.proofs.Common.{◌≡◌, ◌∙◌, ◌+◌, ◌∷◌, ap, sym, get_or, drop, drop-cons, add-one, append_assoc, arith}
use Rattle.std.proofs.lemmas.List.{append-nil}
use Rattle.chc_print.proofs.Groups.{none_beyond, next_group}
use Rattle.chc_print.proofs.datatypes.write_groups.Goals as goal

pub returns-then-from : goal.returns-then-from
returns-then-from c =
    let sizes = drop c.loop-size.size-index c.as_slice-size-items.result.now in
    let none = none_beyond c.args.sig.now c.args.reach c.loop-size.from sizes (omega arith) in
    grind (arith, append-nil, none, c.loop-size.invariant)

pub loop-size-preserved : goal.loop-size-preserved
loop-size-preserved c =
    let sizes = c.as_slice-size-items.result.now in
    let i = c.loop-size.size-index in
    let size = get_or sizes i 0 in
    let left : drop i sizes ≡ size ∷ drop (i + 1) sizes = drop-cons sizes i 0 (omega arith) ∙ ap (λ k. size ∷ drop k sizes) (sym (add-one i)) in
    let next = next_group c.args.sig.now c.args.reach c.loop-size.from size (drop (i + 1) sizes) (omega arith) in
    grind (arith, append_assoc, left, next, c.loop-size.invariant)
