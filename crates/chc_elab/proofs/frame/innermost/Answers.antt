use Rattle.std.proofs.Common.{◌≡◌, ◌-◌, ◌≤◌, ap, ◌∙◌, arith, take}
use Rattle.std.specs.Option.{option_or}
use Rattle.chc_elab.specs.Settings.{flat}
use Rattle.chc_elab.specs.Sites.{local_named}
use Rattle.chc_elab.proofs.Locals.{local-last}
use Rattle.chc_elab.proofs.frame.innermost.Goals as goal

pub returns-in-Some : goal.returns-in-Some
returns-in-Some c =
    let fs = c.args.frames.now in
    let name = c.args.name.now in
    c.loop-left.invariant.same
    ∙ local-last fs c.loop-left.left c.index-frames-left.result name c.loop-left-test.true c.loop-left.invariant.within c.index-frames-left.is
    ∙ ap (λ o. option_or o (local_named (flat (take (c.loop-left.left - 1) fs)) name)) c.in-Some.ensures

pub loop-left-preserved : goal.loop-left-preserved
loop-left-preserved c =
    let fs = c.args.frames.now in
    let name = c.args.name.now in
    let within : c.loop-left.left ≤ _ = c.loop-left.invariant.within in
    record {
      within = omega arith;
      same =
          c.loop-left.invariant.same
          ∙ local-last fs c.loop-left.left c.index-frames-left.result name c.loop-left-test.true c.loop-left.invariant.within c.index-frames-left.is
          ∙ ap (λ o. option_or o (local_named (flat (take (c.loop-left.left - 1) fs)) name)) c.in_default.ensures;
    }
