use Rattle.std.proofs.Common.{arith, ◌≡◌, ◌<◌, ◌+◌, ◌-◌, length, drop}
use Rattle.std.proofs.lemmas.List.{drop_all}
use Rattle.chc_steps.proofs.RunLaws.{drop-step, HasRefuted, HasRefuted-drop, AllTurnOver-none, AllTurnOver-more, AllTurnOver-refused, first_refuted}
use Rattle.chc_steps.proofs.generic.back_steps.Goals as goal

pub returns : goal.returns
returns g c =
    let e : c.loop-left.left ≡ 0 = omega arith in
    let all = rw e at c.loop-left.invariant.back in
    all.each

pub loop-left-init : goal.loop-left-init
loop-left-init g c = record {
  within = omega arith;
  back = rw (drop_all (length c.args.undos.now) c.args.undos.now (omega arith)) (AllTurnOver-none g.P.Pass.after g.P.Pass.stands c.args.w.now c.args.r g.P.Pass.turned g.P.Pass.exceeds);
}

pub loop-left-preserved : goal.loop-left-preserved
loop-left-preserved g c =
    let inside : c.loop-left.left - 1 < length c.args.undos.now = omega arith in
    let next : c.loop-left.left ≡ c.loop-left.left - 1 + 1 = omega arith in
    let at = drop-step c.args.undos.now c.loop-left.left (c.loop-left.left - 1) c.index-undos-left.result next inside c.index-undos-left.is in
    record {
      within = omega arith;
      back = rw at (AllTurnOver-more g.P.Pass.after g.P.Pass.stands c.args.w.now c.args.r g.P.Pass.turned g.P.Pass.exceeds g.met.P.Pass.keeps_sig c.index-undos-left.result (drop c.loop-left.left c.args.undos.now) c.loop-left.made c.loop-left.invariant.back c.in-Ok.made c.in-Ok.ensures);
    }

pub back_steps-requires : goal.back_steps-requires
back_steps-requires g c =
    let inside : c.loop-left.left - 1 < length c.args.undos.now = omega arith in
    let next : c.loop-left.left ≡ c.loop-left.left - 1 + 1 = omega arith in
    let at = drop-step c.args.undos.now c.loop-left.left (c.loop-left.left - 1) c.index-undos-left.result next inside c.index-undos-left.is in
    let some : HasRefuted g.P.Pass.after g.P.Pass.stands c.args.w.now c.args.r c.args.undos.now = record { before = c.requires.0; choices = c.requires.1; stand = c.requires.2; world = c.requires.3; refutes = c.requires.4 } in
    let here = rw at at (HasRefuted-drop g.P.Pass.after g.P.Pass.stands c.args.w.now c.args.r g.met.P.Pass.keeps_sig c.args.undos.now (c.loop-left.left - 1) some) in
    first_refuted g.P.Pass.after g.P.Pass.stands c.args.w.now c.args.r g.P.Pass.turned g.P.Pass.exceeds g.met.P.Pass.keeps_sig c.index-undos-left.result (drop c.loop-left.left c.args.undos.now) c.loop-left.made c.loop-left.invariant.back here

pub returns-in-Err : goal.returns-in-Err
returns-in-Err g c =
    let inside : c.loop-left.left - 1 < length c.args.undos.now = omega arith in
    let next : c.loop-left.left ≡ c.loop-left.left - 1 + 1 = omega arith in
    let at = drop-step c.args.undos.now c.loop-left.left (c.loop-left.left - 1) c.index-undos-left.result next inside c.index-undos-left.is in
    let all = AllTurnOver-refused g.P.Pass.after g.P.Pass.stands c.args.w.now c.args.r g.P.Pass.turned g.P.Pass.exceeds g.met.P.Pass.keeps_sig c.index-undos-left.result (drop c.loop-left.left c.args.undos.now) c.loop-left.made c.loop-left.invariant.back c.args.undos.now (c.loop-left.left - 1) c.in-Err.refused at c.in-Err.ensures in
    rw c.at.ensures all.each
