use Rattle.std.proofs.Common.{◌≡◌, Bool, true, false, List, None, sym, ap, subst, ◌∙◌}
use Rattle.std.specs.List.{list_all}
use Rattle.chc_sorts.specs.Signature.{Signature}
use Rattle.chc_sorts.specs.Sorts.{sort_fits}
use Rattle.chc_script.specs.Drafted.{IsDrafted}
use Rattle.chc_script.specs.Drafts.{DraftView, PredicatesView, is_taken, with_predicate}
use Rattle.chc_script.proofs.DraftLaws.{drafted_predicate, few_declared}
use Rattle.chc_script.proofs.whole.draft.Draft.add_predicate.Goals as goal

pub with-requires-clause-few : goal.with-requires-clause-few
with-requires-clause-few c =
    let d = c.self.inside in
    (few_declared d.preds.decls c.args.sorts c.self.invariant.declared.live (sym c.passed_by.ensures ∙ c.in_ok-hold_to.ensures.within)).1

pub invariant_of-result : goal.invariant_of-result
invariant_of-result c =
    let d = c.self.inside in let name = c.args.name.now in
    let new = ap (λ (e : DraftView). is_taken e name) c.self.view_is ∙ c.requires.new in
    let fit = ap (λ (e : DraftView). list_all (sort_fits e.sig) c.args.sorts) c.self.view_is ∙ c.requires.fitting in
    let within = sym c.passed_by.ensures ∙ c.in_ok-hold_to.ensures.within in
    let made : c.in_ok-preds.preds ≡ with_predicate d.preds name c.args.sorts = c.in_ok-preds.ensures in
    subst (λ (p : PredicatesView). IsDrafted d.sig p d.asserted) (sym made)
    (drafted_predicate d.sig d.preds d.asserted name c.args.sorts c.self.invariant new c.requires.writable fit within)
