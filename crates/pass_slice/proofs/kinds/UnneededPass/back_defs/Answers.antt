use Rattle.std.proofs.Common.{List, length, sym, ap, ◌∙◌, subst}
use Rattle.std.specs.Prelude.{nat_lt}
use Rattle.std.specs.List.{list_all}
use Rattle.chc_state.specs.declared.defs.Defs.{Defs}
use Rattle.chc_state.specs.Back.{LeadsBack}
use Rattle.pass_slice.specs.declared.sliced.Removed.{Removed}
use Rattle.pass_slice.specs.Slices.{Slice, truth, sliced}
use Rattle.pass_slice.specs.Undos.{with_removed}
use Rattle.pass_slice.proofs.Leading.{leads_back}
use Rattle.pass_slice.proofs.Undoing.{slice_back_is, slice_inside}
use Rattle.pass_slice.proofs.kinds.UnneededPass.back_defs.Goals as goal

pub with_constants-requires : goal.with_constants-requires
with_constants-requires c =
    ap (list_all (λ (x : Removed). nat_lt x.pred (length c.args.d.of))) c.as_slice.ensures
    ∙ slice_inside Slice.backward c.args.u.now c.requires.0 c.requires.1 c.args.d c.requires.2 c.requires.3

pub returns-clause-value : goal.returns-clause-value
returns-clause-value c =
    λ s ps stands defines. c.in_ok-defs.ensures ∙ ap (λ (removed : List Removed). with_removed (truth Slice.backward) removed c.args.d) c.as_slice.ensures
    ∙ slice_back_is Slice.backward c.args.u.now s ps c.args.d stands

pub returns-clause-leads : goal.returns-clause-leads
returns-clause-leads c =
    λ s ps stands defines.
    let is =
    c.in_ok-defs.ensures ∙ ap (λ (removed : List Removed). with_removed (truth Slice.backward) removed c.args.d) c.as_slice.ensures
    ∙ slice_back_is Slice.backward c.args.u.now s ps c.args.d stands in
    subst (λ (e : Defs). LeadsBack s c.args.d e (sliced Slice.backward s ps)) (sym is) (leads_back Slice.backward s ps c.args.d stands.state stands.legal defines)
