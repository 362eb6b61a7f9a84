use Rattle.std.proofs.Common.{arith, rules, ◌<◌, length}
use Rattle.chc_steps.specs.Runs.{IsReplayRefusal}
use Rattle.chc_steps.proofs.RunLaws.{IsRun-next, IsReplayRefusal-at}
use Rattle.chc_steps.proofs.generic.replay.Goals as goal

pub loop-i-preserved : goal.loop-i-preserved
loop-i-preserved g c =
    let inside : c.loop-i.i < length c.args.choices.now = omega arith in
    IsRun-next g.P.Pass.after g.P.Pass.stands g.P.Pass.legal c.args.s c.args.choices.now c.loop-i.i c.loop-i.undos c.push.new.self c.loop-i.state c.index-choices-i.result c.in_ok-next.undo c.in_ok-next.next inside c.index-choices-i.is c.in_ok-push.ensures.added c.loop-i.invariant c.in_ok-next.ensures.ok

pub returns-in_err-next-clause-refused : goal.returns-in_err-next-clause-refused
returns-in_err-next-clause-refused g c =
    let inside : c.loop-i.i < length c.args.choices.now = omega arith in
    let refused : IsReplayRefusal g.P.Pass.after g.P.Pass.legal c.args.s c.args.choices.now c.in_err-next.field-0.0 =
    IsReplayRefusal-at g.P.Pass.after g.P.Pass.legal c.args.s c.args.choices.now c.loop-i.i c.loop-i.state c.index-choices-i.result c.in_err-next.field-0.0 inside c.index-choices-i.is c.loop-i.invariant.goes c.in_err-next.ensures.refused in
    search rules
