use Rattle.std.proofs.Common.{◌≡◌, ℕ, List, sym, ap, subst, ◌∙◌}
use Rattle.std.specs.List.{list_all}
use Rattle.chc_sorts.specs.WellFounded.{IsWellFounded}
use Rattle.chc_state.specs.declared.clause.PredDecl.{PredDecl}
use Rattle.chc_state.specs.Limits.{first_passed}
use Rattle.chc_state.specs.Names.{AreNamesOf}
use Rattle.chc_state.specs.States.{StateView, uses_live}
use Rattle.chc_state.specs.WellFormed.{are_well_formed}
use Rattle.chc_script.specs.Drafted.{AreNamed, IsDrafted}
use Rattle.chc_script.specs.Drafts.{DraftView, passed_by_all}
use Rattle.chc_script.proofs.DraftLaws.{all_formed, all_live, all_within, says_script}
use Rattle.chc_script.specs.Scripts.{ScriptView}
use Rattle.chc_script.proofs.DraftNames.{names_of_state}
use Rattle.chc_script.proofs.KeptAssertions.{keeps_assertions}
use Rattle.chc_script.proofs.whole.draft.Draft.into_script.Goals as goal

pub of_parts-requires-clause-live : goal.of_parts-requires-clause-live
of_parts-requires-clause-live c =
    let d = c.self.inside in
    let decls = c.into_parts-names.ensures.decls in let clauses = c.into_parts-assertions.ensures.clauses in
    let live = all_live d.sig d.preds.decls c.self.invariant.declared.live d.asserted.clauses (all_formed c.clause_is_well_formed.ensures d.sig d.preds d.asserted c.self.invariant) in
    ap (λ (l : List PredDecl). uses_live l c.into_parts-assertions.result.1) decls ∙ ap (uses_live d.preds.decls) clauses ∙ live

pub of_parts-requires-clause-within : goal.of_parts-requires-clause-within
of_parts-requires-clause-within c =
    let d = c.self.inside in
    let decls = c.into_parts-names.ensures.decls in let clauses = c.into_parts-assertions.ensures.clauses in
    let none = ap (λ (e : DraftView). passed_by_all e.preds.decls e.asserted.clauses) c.self.view_is ∙ c.requires in
    ap (λ (l : List PredDecl). first_passed l c.into_parts-assertions.result.1) decls ∙ ap (first_passed d.preds.decls) clauses ∙ all_within d.sig d.preds d.asserted c.self.invariant none

pub of_parts-requires-clause-formed : goal.of_parts-requires-clause-formed
of_parts-requires-clause-formed c =
    let d = c.self.inside in
    let decls = c.into_parts-names.ensures.decls in let clauses = c.into_parts-assertions.ensures.clauses in
    ap (λ (l : List PredDecl). are_well_formed d.sig l c.into_parts-assertions.result.1) decls ∙ ap (are_well_formed d.sig d.preds.decls) clauses
    ∙ all_formed c.clause_is_well_formed.ensures d.sig d.preds d.asserted c.self.invariant

pub returns-clause-says : goal.returns-clause-says
returns-clause-says c =
    let d = c.self.inside in
    let kept = subst (λ (s : StateView). IsDrafted s.sig d.preds d.asserted) (sym c.of_parts.ensures) c.self.invariant in
    says_script (record { state = c.of_parts.result; names = c.into_parts-names.result.0; assertions = c.into_parts-assertions.result.0 }) d.preds d.asserted kept
    (ap (λ (s : StateView). s.preds) c.of_parts.ensures ∙ c.into_parts-names.ensures.decls)
    (ap (λ (s : StateView). s.clauses) c.of_parts.ensures ∙ c.into_parts-assertions.ensures.clauses) c.into_parts-assertions.ensures.assertions

pub returns-clause-names : goal.returns-clause-names
returns-clause-names c =
    let d = c.self.inside in
    let kept = subst (λ (s : StateView). AreNamed s.sig d.preds.names) (sym c.of_parts.ensures) c.self.invariant.named in
    subst (λ (names : List (List ℕ)). AreNamesOf c.of_parts.result names) (sym c.into_parts-names.ensures.names)
    (names_of_state c.of_parts.result d.preds.names d.preds.decls (ap (λ (s : StateView). s.preds) c.of_parts.ensures ∙ c.into_parts-names.ensures.decls) c.self.invariant.declared.same kept)

pub returns-clause-keeps : goal.returns-clause-keeps
returns-clause-keeps c =
    let d = c.self.inside in
    let X : ScriptView = record { state = c.of_parts.result; names = c.into_parts-names.result.0; assertions = c.into_parts-assertions.result.0 } in
    let preds = ap (λ (s : StateView). s.preds) c.of_parts.ensures ∙ c.into_parts-names.ensures.decls in
    keeps_assertions c.truth_is_kept.ensures X
    (subst IsWellFounded (sym (ap (λ (s : StateView). s.sig) c.of_parts.ensures)) c.well_founded.ensures)
    (ap (list_all (λ (decl : PredDecl). decl.live)) preds ∙ c.self.invariant.declared.live) (returns-clause-says c)
