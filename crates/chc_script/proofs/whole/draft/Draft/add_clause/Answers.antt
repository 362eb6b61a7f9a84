use Rattle.std.proofs.Common.{◌≡◌, Option, None, Result, Ok, Err, sym, ap, subst, ◌∙◌}
use Rattle.std.proofs.lemmas.Result.{err_from_is_err_and}
use Rattle.chc_sorts.specs.declared.limit.Limit.{Limit}
use Rattle.chc_sexpr.specs.declared.fault.TextErr.{TextErr}
use Rattle.chc_elab.specs.Sites.{Tells, ◌>>>◌}
use Rattle.chc_state.specs.WellFormed.{term_fits}
use Rattle.chc_script.specs.Asserts.{clause_added}
use Rattle.chc_script.specs.Drafted.{IsCondition, IsDrafted}
use Rattle.chc_script.specs.Drafts.{AssertedView, DraftView, held_to, passed_by_clause, with_asserted, with_assertion}
use Rattle.chc_script.proofs.DraftLaws.{drafted_assertion, refused_on}
use Rattle.chc_script.proofs.whole.draft.Draft.add_clause.Goals as goal

pub returns-in_err-hold_to : goal.returns-in_err-hold_to
returns-in_err-hold_to c =
    let d = c.self.inside in let place = c.args.place in let e = c.in_err-hold_to.field-0.0 in
    let old : DraftView = record { logic = d.logic; sig = d.sig; preds = d.preds; asserted = d.asserted } in
    let p = err_from_is_err_and c.from_residual.result c.from_residual.ensures.1 in
    let held = subst (λ (o : Option Limit). Tells (Err e) (held_to place o)) c.passed_by.ensures c.in_err-hold_to.ensures.value in
    let told = refused_on e (held_to place (passed_by_clause d.asserted.clauses c.args.clause)) (λ _. Ok (with_asserted (with_assertion d.asserted c.args.term c.args.clause) old)) held in
    subst (λ (f : DraftView). Tells c.from_residual.result (clause_added f place c.args.term c.args.clause)) c.self.view_is
    (subst (λ r. Tells r (clause_added old place c.args.term c.args.clause)) (sym (p.1 ∙ ap Err p.2)) told)

pub invariant_of-result : goal.invariant_of-result
invariant_of-result c =
    let d = c.self.inside in
    let sorted = subst (λ (e : DraftView). IsCondition e.sig e.preds.decls c.args.term) (sym c.self.view_is) c.requires.sorted in
    let fit = ap (λ (e : DraftView). term_fits e.sig c.args.term) c.self.view_is ∙ c.requires.fitting in
    let within = sym c.passed_by.ensures ∙ c.in_ok-hold_to.ensures.within in
    let made : c.in_ok-asserted.asserted ≡ with_assertion d.asserted c.args.term c.args.clause = c.in_ok-asserted.ensures in
    subst (λ (a : AssertedView). IsDrafted d.sig d.preds a) (sym made)
    (drafted_assertion d.sig d.preds d.asserted c.args.term c.args.clause c.self.invariant sorted fit c.requires.says within)
