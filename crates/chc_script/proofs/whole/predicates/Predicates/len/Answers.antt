use Rattle.std.proofs.Common.{◌≡◌, length, sym, ◌∙◌, subst}
use Rattle.chc_state.specs.Limits.{live_count}
use Rattle.chc_script.specs.Drafts.{PredicatesView}
use Rattle.chc_script.proofs.PredicateLaws.{count_of_all}
use Rattle.chc_script.proofs.whole.predicates.Predicates.len.Goals as goal

pub returns-clause-live : goal.returns-clause-live
returns-clause-live c =
    let all : live_count c.self.inside.decls ≡ length c.self.inside.decls = count_of_all _ _ c.self.invariant in
    let counted : c.len.result ≡ live_count c.self.inside.decls = c.len.ensures ∙ sym all in
    subst (λ (p : PredicatesView). c.len.result ≡ live_count p.decls) c.self.view_is counted
