use Rattle.std.proofs.Common.{sym, ◌∙◌}
use Rattle.chc_steps.proofs.QueryAlone.{AskNothing, steps_stand}
use Rattle.chc_steps.proofs.tests.steps_before.Goals as goal

pub back_steps-requires : goal.back_steps-requires
back_steps-requires c =
    let found : AskNothing c.as_slice.result.now = c.ask_nothing.ensures c.if-ask_nothing.true in
    let asks : AskNothing c.in-Ok.z.clauses =
    (found.0, sym c.clauses.ensures.value ∙ sym c.as_slice.ensures ∙ found.1, found.2, found.3, found.4, found.5) in
    steps_stand c.args.s c.in-Ok.z c.in-Ok.run'.steps c.in-Ok.run'.undos c.new-world.result c.in-Ok-one_step.one c.in-Ok.ensures.run c.new-world.ensures
    c.in-Ok-one_step.ensures asks
