use Rattle.std.proofs.Common.{List, length, ap, arith}
use Rattle.chc_state.specs.declared.refutation.RefStep.{RefStep}
use Rattle.chc_state.specs.Refuting.{number_before}
use Rattle.pass_slice.proofs.Numbering.{numbered_more}
use Rattle.pass_slice.proofs.sliced.renumber.Goals as goal

pub loop-i-preserved : goal.loop-i-preserved
loop-i-preserved c =
    numbered_more (number_before c.args.gone.now) c.args.steps c.loop-i.items.items c.loop-i.i c.index.result.now c.index_mut.result.now c.number_of-clause.result
    (omega (arith, ap (λ (xs : List RefStep). length xs) c.into_vec-items.ensures)) c.loop-i.invariant c.index.ensures c.index_mut.ensures.value c.number_of-clause.ensures
