use Rattle.std.proofs.Common.{arith}
use Rattle.std.proofs.lemmas.Int.Digits.{digits_value_more, digits_more}
use Rattle.chc_sexpr.proofs.Decimals.{digit_fits}
use Rattle.chc_sexpr.proofs.token.digits_value.Goals as goal

pub returns-in_err-value : goal.returns-in_err-value
returns-in_err-value c = rw c.from_residual.ensures (λ p. c.in_err-value.ensures (digit_fits c.args.bytes.now c.loop-b.b-index c.loop-b.value (omega arith) c.loop-b.invariant.same p.0 p.1))

pub loop-b-preserved : goal.loop-b-preserved
loop-b-preserved c = record {
  digits = digits_more 10 c.args.bytes.now c.loop-b.b-index (omega arith) c.loop-b.invariant.digits c.in_ok-value.ensures.0.0;
  small = omega (arith, c.in_ok-value.ensures);
  same = omega (arith, c.in_ok-value.ensures, digits_value_more 10 c.args.bytes.now c.loop-b.b-index (omega arith));
}
