use Rattle.std.proofs.Common.{rules, arith}
use Rattle.chc_elab.proofs.Sizes.{size_all-push, depth_all-push}
use Rattle.chc_elab.proofs.pile.Pile.push.Goals as goal

pub invariant_of-self-2 : goal.invariant_of-self-2
invariant_of-self-2 c =
    let sizes = size_all-push c.self.inside.terms c.term.inside.term in
    let depths = depth_all-push c.self.inside.terms c.term.inside.term in
    search (rules, arith, sizes, depths)
