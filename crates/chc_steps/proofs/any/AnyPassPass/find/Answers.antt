use Rattle.chc_state.specs.Passes.{IsNone}
use Rattle.pass_slice.specs.Slices.{Slice, IsGreatest, IsSliced}
use Rattle.pass_slice.specs.Voids.{IsLeastVoid, HasNoVoid}
use Rattle.chc_steps.specs.Kinds.{AllDone, all_kinds}
use Rattle.chc_steps.proofs.KindLaws.{none_first}
use Rattle.chc_steps.proofs.any.AnyPassPass.find.Goals as goal

pub returns : goal.returns
returns c =
    let void : IsNone IsLeastVoid HasNoVoid c.args.s.now = rw c.in_default.is at c.in_ok-k.ensures in
    let unreached : IsNone (IsGreatest Slice.forward) (IsSliced Slice.forward) c.args.s.now = rw c.in_default-2.is at c.in_ok-ps.ensures in
    let unneeded : IsNone (IsGreatest Slice.backward) (IsSliced Slice.backward) c.args.s.now = rw c.in_default-3.is at c.in_ok-ps-2.ensures in
    let done : AllDone c.args.s.now all_kinds = (unneeded, (unreached, (void, tt))) in
    record { no_choice = none_first c.args.s.now done; nothing_left = done }
