use Rattle.chc_values.specs.Worlds.{IsWorld}
use Rattle.chc_state.specs.declared.step.Step.{Step}
use Rattle.chc_state.specs.States.{StateView}
use Rattle.chc_state.specs.Refuting.{Refutes}
use Rattle.chc_state.specs.Passes.{TurnsBack}
use Rattle.chc_steps.specs.Kinds.{after, IsTurned, Exceeds}
use Rattle.chc_steps.proofs.KindLaws.{void_alone, unreached_alone, unneeded_alone, each_void, each_unreached, each_unneeded}
use Rattle.chc_steps.proofs.any.AnyPassPass.back_steps.Goals as goal

pub back_steps-requires : goal.back_steps-requires
back_steps-requires c =
    let P : StateView → Step → Type 0 = λ s x. IsWorld s.sig c.args.w.now × Refutes (after s x) c.args.w.now c.args.r in
    let stands = rw c.in-Void.is at c.requires.2 in
    let found = void_alone P c.requires.0 c.in-Void.u c.requires.1 stands (c.requires.3, c.requires.4) in
    (c.requires.0, found.0, found.1, found.2.0, found.2.1)

pub returns-in-Void : goal.returns-in-Void
returns-in-Void c =
    λ s x stands.
    let P : StateView → Step → Type 0 =
    λ s x. IsWorld s.sig c.args.w.now → Refutes (after s x) c.args.w.now c.args.r → TurnsBack (IsTurned s x c.args.w.now c.args.r) (Exceeds s x c.args.w.now c.args.r) s (after s x) c.args.w.now c.args.r c.back_steps.result in
    each_void P s c.in-Void.u (c.back_steps.ensures s) x (rw c.in-Void.is at stands)

pub back_steps-requires-in-Unreached : goal.back_steps-requires-in-Unreached
back_steps-requires-in-Unreached c =
    let P : StateView → Step → Type 0 = λ s x. IsWorld s.sig c.args.w.now × Refutes (after s x) c.args.w.now c.args.r in
    let stands = rw c.in-Unreached.is at c.requires.2 in
    let found = unreached_alone P c.requires.0 c.in-Unreached.u c.requires.1 stands (c.requires.3, c.requires.4) in
    (c.requires.0, found.0, found.1, found.2.0, found.2.1)

pub returns-in-Unreached : goal.returns-in-Unreached
returns-in-Unreached c =
    λ s x stands.
    let P : StateView → Step → Type 0 =
    λ s x. IsWorld s.sig c.args.w.now → Refutes (after s x) c.args.w.now c.args.r → TurnsBack (IsTurned s x c.args.w.now c.args.r) (Exceeds s x c.args.w.now c.args.r) s (after s x) c.args.w.now c.args.r c.back_steps-in-Unreached.result in
    each_unreached P s c.in-Unreached.u (c.back_steps-in-Unreached.ensures s) x (rw c.in-Unreached.is at stands)

pub back_steps-requires-in-Unneeded : goal.back_steps-requires-in-Unneeded
back_steps-requires-in-Unneeded c =
    let P : StateView → Step → Type 0 = λ s x. IsWorld s.sig c.args.w.now × Refutes (after s x) c.args.w.now c.args.r in
    let stands = rw c.in-Unneeded.is at c.requires.2 in
    let found = unneeded_alone P c.requires.0 c.in-Unneeded.u c.requires.1 stands (c.requires.3, c.requires.4) in
    (c.requires.0, found.0, found.1, found.2.0, found.2.1)

pub returns-in-Unneeded : goal.returns-in-Unneeded
returns-in-Unneeded c =
    λ s x stands.
    let P : StateView → Step → Type 0 =
    λ s x. IsWorld s.sig c.args.w.now → Refutes (after s x) c.args.w.now c.args.r → TurnsBack (IsTurned s x c.args.w.now c.args.r) (Exceeds s x c.args.w.now c.args.r) s (after s x) c.args.w.now c.args.r c.back_steps-in-Unneeded.result in
    each_unneeded P s c.in-Unneeded.u (c.back_steps-in-Unneeded.ensures s) x (rw c.in-Unneeded.is at stands)
