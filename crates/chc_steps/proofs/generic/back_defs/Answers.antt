use Rattle.std.proofs.Common.{arith, ◌≡◌, ◌<◌, ◌+◌, ◌-◌, length, drop}
use Rattle.std.proofs.lemmas.List.{drop_all}
use Rattle.chc_steps.proofs.RunLaws.{drop-step, HasDefined, HasDefined-drop, AllDefsBack-none, AllDefsBack-more, first_defined}
use Rattle.chc_steps.proofs.generic.back_defs.Goals as goal

pub returns : goal.returns
returns g c =
    let e : c.loop-left.left ≡ 0 = omega arith in
    let all = rw e at c.loop-left.invariant.back in
    all.each

pub loop-left-init : goal.loop-left-init
loop-left-init g c = record {
  within = omega arith;
  back = rw (drop_all (length c.args.undos.now) c.args.undos.now (omega arith)) (AllDefsBack-none g.P.Pass.after g.P.Pass.stands g.P.Pass.back c.args.d);
}

pub loop-left-preserved : goal.loop-left-preserved
loop-left-preserved g c =
    let inside : c.loop-left.left - 1 < length c.args.undos.now = omega arith in
    let next : c.loop-left.left ≡ c.loop-left.left - 1 + 1 = omega arith in
    let at = drop-step c.args.undos.now c.loop-left.left (c.loop-left.left - 1) c.index-undos-left.result next inside c.index-undos-left.is in
    record {
      within = omega arith;
      back = rw at (AllDefsBack-more g.P.Pass.after g.P.Pass.stands g.P.Pass.back g.met.P.Pass.keeps_sig c.index-undos-left.result (drop c.loop-left.left c.args.undos.now) c.args.d c.loop-left.made c.in_ok-made.made c.loop-left.invariant.back c.in_ok-made.ensures.value c.in_ok-made.ensures.leads);
    }

pub back_defs-requires : goal.back_defs-requires
back_defs-requires g c =
    let inside : c.loop-left.left - 1 < length c.args.undos.now = omega arith in
    let next : c.loop-left.left ≡ c.loop-left.left - 1 + 1 = omega arith in
    let at = drop-step c.args.undos.now c.loop-left.left (c.loop-left.left - 1) c.index-undos-left.result next inside c.index-undos-left.is in
    let some : HasDefined g.P.Pass.after g.P.Pass.stands c.args.undos.now c.args.d = record { before = c.requires.0; choices = c.requires.1; stand = c.requires.2; defines = c.requires.3 } in
    let here = rw at at (HasDefined-drop g.P.Pass.after g.P.Pass.stands c.args.undos.now (c.loop-left.left - 1) c.args.d some) in
    first_defined g.P.Pass.after g.P.Pass.stands g.P.Pass.back c.index-undos-left.result (drop c.loop-left.left c.args.undos.now) c.args.d c.loop-left.made here c.loop-left.invariant.back
