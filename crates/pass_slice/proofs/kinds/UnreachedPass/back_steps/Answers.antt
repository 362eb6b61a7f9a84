use Rattle.std.proofs.Common.{◌≡◌, ℕ, true, ◌<◌, ◌^◌, List, map, sym, ap, ◌∙◌, subst}
use Rattle.chc_state.specs.PredSets.{is_ascending}
use Rattle.chc_state.specs.Refuting.{number_before, numbered}
use Rattle.pass_slice.specs.Slices.{Slice}
use Rattle.pass_slice.proofs.Undoing.{gone_ascend, number_fits, slice_turns}
use Rattle.pass_slice.proofs.kinds.UnreachedPass.back_steps.Goals as goal

pub renumber-requires-clause-ascending : goal.renumber-requires-clause-ascending
renumber-requires-clause-ascending c =
    subst (λ (gone : List ℕ). is_ascending gone ≡ true) (sym c.as_slice.ensures) (gone_ascend Slice.forward c.args.u.now c.requires.0 c.requires.1 c.requires.2)

pub renumber-requires-clause-fit : goal.renumber-requires-clause-fit
renumber-requires-clause-fit c =
    λ n x at. subst (λ (gone : List ℕ). number_before gone x.clause < 2 ^ 32) (sym c.as_slice.ensures)
    (number_fits Slice.forward c.args.u.now c.requires.0 c.requires.1 c.args._w.now c.args.r c.requires.2 c.requires.4 n x at)

pub returns : goal.returns
returns c =
    λ s ps stands world refutes. slice_turns Slice.forward c.args.u.now s ps c.args._w.now c.args.r c.renumber.result stands refutes
    (c.renumber.ensures ∙ ap (λ (gone : List ℕ). map (numbered (number_before gone)) c.args.r) c.as_slice.ensures)
