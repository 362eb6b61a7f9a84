use Rattle.chc_jobs.proofs.Carried.{defines_last, carried}
use Rattle.chc_jobs.proofs.lift.model.carry.Goals as goal

pub take_back-requires : goal.take_back-requires
take_back-requires c = (
  c.args.script.now.state,
  c.requires.stand,
  defines_last c.last_state_is_one.ensures c.args.script.now.state c.args.replayed.now.run.steps c.args.replayed.now.state c.in_ok-defs.defs c.requires.goes c.in_ok-defs.ensures.defines,
)

pub returns-clause-ok : goal.returns-clause-ok
returns-clause-ok c =
    let defines = defines_last c.last_state_is_one.ensures c.args.script.now.state c.args.replayed.now.run.steps c.args.replayed.now.state c.in_ok-defs.defs c.requires.goes c.in_ok-defs.ensures.defines in
    carried c.last_state_is_one.ensures c.args.answer.now c.args.script.now c.args.replayed.now.run.steps c.args.replayed.now.state c.in_ok-defs.defs c.in_ok-made.made
    c.requires.assertions c.requires.goes c.in_ok-defs.ensures.says (c.in_ok-made.ensures c.args.script.now.state c.requires.stand defines)
