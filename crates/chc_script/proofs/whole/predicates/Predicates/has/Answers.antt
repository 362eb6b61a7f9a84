use Rattle.std.proofs.Common.{ap, ◌∙◌, subst}
use Rattle.std.specs.Prelude.{is_some}
use Rattle.chc_script.specs.Drafts.{PredicatesView, ArePredicates}
use Rattle.chc_script.proofs.PredicateLaws.{copied_found, found}
use Rattle.chc_script.proofs.whole.predicates.Predicates.has.Goals as goal

pub returns : goal.returns
returns c =
    let kept = subst (λ (p : PredicatesView). ArePredicates p c.self.inside.symbols) c.self.view_is c.self.invariant in
    c.is_some.ensures ∙ copied_found c.find.result ∙ ap is_some c.find.ensures ∙ found c.args.self.now c.self.inside.symbols kept c.args.name.now
