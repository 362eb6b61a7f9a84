use Rattle.std.proofs.Common.{◌∙◌, ap, sym, ◌++◌, ◌-◌, length, take, drop}
use Rattle.chc_sexpr.proofs.Fronts.{on_err, stayed, next_text, next_begun}
use Rattle.chc_sexpr.proofs.write.+trees.Goals as goal

pub write_trees-returns-in_err-push-clause-front : goal.write_trees-returns-in_err-push-clause-front
write_trees-returns-in_err-push-clause-front t c =
    on_err _ c.from_residual-in_err-push.result (stayed _ _ _ _ _ c.loop-tree.invariant.1 c.loop-tree.invariant.0 c.in_err-push.ensures.same)

pub write_trees-returns-in_err-write_tree-2-clause-front : goal.write_trees-returns-in_err-write_tree-2-clause-front
write_trees-returns-in_err-write_tree-2-clause-front t c =
    let trees = c.args.trees.now in
    let rest = take (length trees - 1) (drop 1 trees) in
    let next = next_text rest c.loop-tree.tree-index c.tree-item.result c.loop-tree-test.true c.tree-item.is in
    let way = ap (λ t. c.loop-tree.out ++ t) (sym next) ∙ c.loop-tree.invariant.1 in
    on_err _ c.from_residual-in_err-write_tree-2.result
    (next_begun _ _ _ _ _ _ _ way c.loop-tree.invariant.0 c.in_ok-push.ensures.added c.in_err-write_tree-2.ensures.front)
