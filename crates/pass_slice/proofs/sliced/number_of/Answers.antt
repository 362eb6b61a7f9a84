use Rattle.std.proofs.Common.{arith, ◌≡◌, ◌<◌, ◌+◌, ◌-◌, ◌/◌, ℕ, suc, drop, subst}
use Rattle.chc_state.specs.Refuting.{number_before}
use Rattle.pass_slice.proofs.Numbering.{number_past}
use Rattle.pass_slice.proofs.sliced.number_of.Goals as goal

pub loop-before-preserved : goal.loop-before-preserved
loop-before-preserved c =
    let middle = c.loop-before.before + (c.loop-before.end - c.loop-before.before) / 2 in
    let below : middle < c.loop-before.end = omega (arith, c.loop-before-test.true) in
    let next : suc middle ≡ middle + 1 = omega arith in
    let past = number_past c.args.gone.now c.args.k middle _ c.requires.ascending (omega (arith, below, c.loop-before.invariant.inside)) c.if-k-middle.false in
    record {
      order = omega (arith, below);
      inside = c.loop-before.invariant.inside;
      past = subst (λ (n : ℕ). number_before c.args.gone.now c.args.k ≡ number_before (drop n c.args.gone.now) (c.args.k + n)) next past;
      stays = c.loop-before.invariant.stays;
    }
