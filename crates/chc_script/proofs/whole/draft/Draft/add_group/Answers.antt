use Rattle.std.proofs.Common.{ℕ, List, Ok, Err, sym, ap, subst, ◌∙◌}
use Rattle.chc_sorts.specs.Groups.{AddsGroup, first_refusal}
use Rattle.chc_elab.specs.Sites.{Tells, ◌>>>◌}
use Rattle.chc_script.specs.Commands.{group_added}
use Rattle.chc_script.specs.Datatypes.{added_at}
use Rattle.chc_script.specs.Drafts.{DraftView, with_sig}
use Rattle.chc_script.proofs.DraftLaws.{drafted_group}
use Rattle.chc_script.proofs.GroupVerdicts.{refusal_told, verdict_added}
use Rattle.chc_script.proofs.whole.draft.Draft.add_group.Goals as goal

pub invariant_of-result : goal.invariant_of-result
invariant_of-result c =
    let d = c.self.inside in let group = c.args.group.now in
    let added = c.in-Ok.ensures in
    drafted_group d.sig group c.add_group.new.self d.preds d.asserted (ap (first_refusal d.sig group) (sym c.names.ensures) ∙ added.0) c.requires.writable added.2 c.self.invariant

pub returns-in-Ok : goal.returns-in-Ok
returns-in-Ok c =
    let d = c.self.inside in let group = c.args.group.now in
    let added = c.in-Ok.ensures in
    let none = ap (first_refusal d.sig group) (sym c.names.ensures) ∙ added.0 in
    let old : DraftView = record { logic = d.logic; sig = d.sig; preds = d.preds; asserted = d.asserted } in
    sym (ap (λ (e : DraftView). group_added e c.args.place group) (sym c.self.view_is)
    ∙ ap (λ v. added_at c.args.place v >>> (λ sig. Ok (with_sig sig old))) (verdict_added d.sig group d.preds.names c.add_group.new.self tt (none, added.1, added.2)))

pub returns-in-Err : goal.returns-in-Err
returns-in-Err c =
    let d = c.self.inside in let group = c.args.group.now in
    let old : DraftView = record { logic = d.logic; sig = d.sig; preds = d.preds; asserted = d.asserted } in
    let why = c.in-Err.why in
    let refused = subst (λ (names : List (List ℕ)). AddsGroup d.sig group names (Err why) c.add_group.new.self) c.names.ensures c.in-Err.ensures in
    subst (λ (e : DraftView). Tells c.refused_group.result (group_added e c.args.place group)) c.self.view_is
    (refusal_told d.sig group d.preds.names c.add_group.new.self c.refused_group.result c.args.place (λ sig. Ok (with_sig sig old)) why refused c.refused_group.ensures)
