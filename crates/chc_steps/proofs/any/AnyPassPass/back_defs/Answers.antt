use Rattle.std.proofs.Common.{◌≡◌}
use Rattle.chc_state.specs.declared.step.Step.{Step}
use Rattle.chc_state.specs.States.{StateView}
use Rattle.chc_state.specs.Definitions.{Defines}
use Rattle.chc_state.specs.Back.{LeadsBack}
use Rattle.chc_steps.specs.Kinds.{after, back}
use Rattle.chc_steps.proofs.KindLaws.{void_alone, unreached_alone, unneeded_alone, each_void, each_unreached, each_unneeded}
use Rattle.std.proofs.lemmas.Result.{IfOk-weaker}
use Rattle.chc_steps.proofs.any.AnyPassPass.back_defs.Goals as goal

pub back_defs-requires : goal.back_defs-requires
back_defs-requires c =
    let P : StateView → Step → Type 0 = λ s x. Defines c.args.d (after s x) in
    let stands = rw c.in-Void.is at c.requires.2 in
    let found = void_alone P c.requires.0 c.in-Void.u c.requires.1 stands c.requires.3 in
    (c.requires.0, found.0, found.1, found.2)

pub returns-in-Void-clause-value : goal.returns-in-Void-clause-value
returns-in-Void-clause-value c =
    IfOk-weaker c.back_defs.result _ _ (λ e value s x stands.
    let P : StateView → Step → Type 0 = λ s x. Defines c.args.d (after s x) → e ≡ back s x c.args.d in
    each_void P s c.in-Void.u (value s) x (rw c.in-Void.is at stands)) c.back_defs.ensures.value

pub returns-in-Void-clause-leads : goal.returns-in-Void-clause-leads
returns-in-Void-clause-leads c =
    IfOk-weaker c.back_defs.result _ _ (λ e leads s x stands.
    let P : StateView → Step → Type 0 = λ s x. Defines c.args.d (after s x) → LeadsBack s c.args.d e (after s x) in
    each_void P s c.in-Void.u (leads s) x (rw c.in-Void.is at stands)) c.back_defs.ensures.leads

pub back_defs-requires-in-Unreached : goal.back_defs-requires-in-Unreached
back_defs-requires-in-Unreached c =
    let P : StateView → Step → Type 0 = λ s x. Defines c.args.d (after s x) in
    let stands = rw c.in-Unreached.is at c.requires.2 in
    let found = unreached_alone P c.requires.0 c.in-Unreached.u c.requires.1 stands c.requires.3 in
    (c.requires.0, found.0, found.1, found.2)

pub returns-in-Unreached-clause-value : goal.returns-in-Unreached-clause-value
returns-in-Unreached-clause-value c =
    IfOk-weaker c.back_defs-in-Unreached.result _ _ (λ e value s x stands.
    let P : StateView → Step → Type 0 = λ s x. Defines c.args.d (after s x) → e ≡ back s x c.args.d in
    each_unreached P s c.in-Unreached.u (value s) x (rw c.in-Unreached.is at stands)) c.back_defs-in-Unreached.ensures.value

pub returns-in-Unreached-clause-leads : goal.returns-in-Unreached-clause-leads
returns-in-Unreached-clause-leads c =
    IfOk-weaker c.back_defs-in-Unreached.result _ _ (λ e leads s x stands.
    let P : StateView → Step → Type 0 = λ s x. Defines c.args.d (after s x) → LeadsBack s c.args.d e (after s x) in
    each_unreached P s c.in-Unreached.u (leads s) x (rw c.in-Unreached.is at stands)) c.back_defs-in-Unreached.ensures.leads

pub back_defs-requires-in-Unneeded : goal.back_defs-requires-in-Unneeded
back_defs-requires-in-Unneeded c =
    let P : StateView → Step → Type 0 = λ s x. Defines c.args.d (after s x) in
    let stands = rw c.in-Unneeded.is at c.requires.2 in
    let found = unneeded_alone P c.requires.0 c.in-Unneeded.u c.requires.1 stands c.requires.3 in
    (c.requires.0, found.0, found.1, found.2)

pub returns-in-Unneeded-clause-value : goal.returns-in-Unneeded-clause-value
returns-in-Unneeded-clause-value c =
    IfOk-weaker c.back_defs-in-Unneeded.result _ _ (λ e value s x stands.
    let P : StateView → Step → Type 0 = λ s x. Defines c.args.d (after s x) → e ≡ back s x c.args.d in
    each_unneeded P s c.in-Unneeded.u (value s) x (rw c.in-Unneeded.is at stands)) c.back_defs-in-Unneeded.ensures.value

pub returns-in-Unneeded-clause-leads : goal.returns-in-Unneeded-clause-leads
returns-in-Unneeded-clause-leads c =
    IfOk-weaker c.back_defs-in-Unneeded.result _ _ (λ e leads s x stands.
    let P : StateView → Step → Type 0 = λ s x. Defines c.args.d (after s x) → LeadsBack s c.args.d e (after s x) in
    each_unneeded P s c.in-Unneeded.u (leads s) x (rw c.in-Unneeded.is at stands)) c.back_defs-in-Unneeded.ensures.leads
