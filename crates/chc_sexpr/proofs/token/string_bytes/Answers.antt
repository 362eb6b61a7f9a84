use Rattle.std.proofs.Common.{arith, sym, ◌∙◌}
use Rattle.chc_sexpr.proofs.Strings.{front_more, front_done}
use Rattle.chc_sexpr.proofs.token.string_bytes.Goals as goal

pub returns-then-step-eq0 : goal.returns-then-step-eq0
returns-then-step-eq0 c = record {
  found = sym (front_done c.loop-at.text c.args.behind.now c.loop-at.at c.loop-at-test.true (sym c.string_step-step.ensures.step ∙ c.if-step-eq0.true)) ∙ c.loop-at.invariant.1;
  within = omega arith;
}

pub loop-at-preserved : goal.loop-at-preserved
loop-at-preserved c =
    let on = front_more c.loop-at.text c.args.behind.now c.loop-at.at c.string_step-step.result c.loop-at-test.true (sym c.string_step-step.ensures.step) c.if-step-eq0.false in
    (c.string_step-step.ensures.within, rw c.in_ok-push.ensures.added (on ∙ c.loop-at.invariant.1))
