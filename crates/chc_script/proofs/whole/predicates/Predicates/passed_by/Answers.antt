use Rattle.std.proofs.Common.{◌≡◌, length, ap, arith, subst}
use Rattle.chc_script.specs.Drafts.{PredicatesView, ArePredicates}
use Rattle.chc_script.proofs.PredicateLaws.{passed_where_full}
use Rattle.chc_script.proofs.whole.predicates.Predicates.passed_by.Goals as goal

pub returns-then-len-ge65536 : goal.returns-then-len-ge65536
returns-then-len-ge65536 c =
    let kept = subst (λ (p : PredicatesView). ArePredicates p c.self.inside.symbols) c.self.view_is c.self.invariant in
    let same : length c.self.inside.decls ≡ length c.args.self.now.decls = ap (λ (p : PredicatesView). length p.decls) c.self.view_is in
    passed_where_full c.args.self.now c.self.inside.symbols kept c.args.sorts.now (omega arith) (omega arith)
