use Rattle.std.proofs.Common.{◌<◌, length, arith, ap, sym}
use Rattle.chc_sexpr.specs.Counts.{count_all}
use Rattle.chc_elab.proofs.TreeCounts.{count_at, count_inner}
use Rattle.ans_model.proofs.FormLaws.{without_fewer}
use Rattle.ans_model.proofs.answer.read_behind_sat.Goals as goal

pub read_group-requires : goal.read_group-requires
read_group-requires c =
    let some : 0 < length c.args.trees.now = omega (arith, c.in-len1-up.len_at_least) in
    let one = count_at c.args.trees.now 0 c.group-item.result some c.group-item.is in
    let inner = count_inner c.group-item.result c.in-Some.inner.now (sym c.in-Some.ensures) in
    let fewer = without_fewer c.in-Some.inner.now in
    let same = ap count_all c.without_model.ensures in
    omega (arith, one, inner, fewer, same, c.requires)
