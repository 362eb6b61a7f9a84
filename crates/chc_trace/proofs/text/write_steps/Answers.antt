use Rattle.std.proofs.Common.{arith, ◌<◌, length, subst}
use Rattle.std.specs.List.{All}
use Rattle.std.proofs.lemmas.List.Elements.{All-more}
use Rattle.std.proofs.lemmas.Grind.{common_steps}
use Rattle.std.proofs.lemmas.List.{take_all}
use Rattle.chc_trace.specs.Kinds.{HasSmallNumbers}
use Rattle.chc_trace.proofs.text.write_steps.Goals as goal

pub loop-step-preserved : goal.loop-step-preserved
loop-step-preserved c =
    let steps = c.args.steps.now in
    let within : c.loop-step.step-index < length steps = omega arith in
    record {
      text = grind (arith, common_steps);
      small = All-more HasSmallNumbers steps c.loop-step.step-index c.step-item.result within c.loop-step.invariant.small (subst HasSmallNumbers c.step-item.is c.in_ok-write_step.ensures.small);
    }

pub returns-clause-small : goal.returns-clause-small
returns-clause-small c = subst (All HasSmallNumbers) (take_all c.loop-step.step-index c.args.steps.now (omega arith)) c.loop-step.invariant.small
