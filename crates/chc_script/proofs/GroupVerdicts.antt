-- What adding a group comes to, by what it answers.
use Rattle.std.proofs.Common.{◌≡◌, ℕ, List, Some, None, Result, Ok, Err, refl, sym, ap, subst, ◌∙◌}
use Rattle.chc_sorts.specs.declared.spec.DataSpec.{DataSpec}
use Rattle.chc_sorts.specs.declared.refusal.SigErr.{SigErr}
use Rattle.chc_sorts.specs.declared.refusal.SigErr.TheVariants as refusal
use Rattle.chc_sorts.specs.Signature.{Signature}
use Rattle.chc_sorts.specs.Groups.{AddsGroup, first_refusal, with_group}
use Rattle.chc_sexpr.specs.declared.fault.TextErr.{TextErr}
use Rattle.chc_elab.specs.Sites.{Reading, Tells, ◌>>>◌}
use Rattle.chc_script.specs.Datatypes.{RefusesGroup, added_at, group_verdict, verdict_at}
use Rattle.chc_script.specs.Inhabited.{first_without_value}
use Rattle.chc_script.proofs.InhabitedLaws.{none_where_all, first_where_empty}

module _ (sig : Signature) (group : List DataSpec) (preds : List (List ℕ)) (new : Signature) where
  abbrev made : Signature
  made = with_group sig group

  refused_by : (why : SigErr) → first_refusal sig group preds ≡ Some why → group_verdict sig group preds ≡ Err why
  refused_by why e = ap (λ r. verdict_at r (first_without_value made.datatypes) made) e

  -- a group that is added
  pub verdict_added : (done : Unit {0}) → AddsGroup sig group preds (Ok done) new → group_verdict sig group preds ≡ Ok new
  verdict_added done h =
      ap (λ r. verdict_at r (first_without_value made.datatypes) made) h.0
      ∙ ap (λ e. verdict_at None e made) (none_where_all made.datatypes h.1)
      ∙ ap (λ (s : Signature). Ok s) (sym h.2)

  -- one that is refused, but for want of memory
  pub verdict_refused : (why : SigErr) → (why ≡ refusal.NoMemory → ⊥) → AddsGroup sig group preds (Err why) new → group_verdict sig group preds ≡ Err why
  verdict_refused refusal.NoMemory other h = absurd (other refl)
  verdict_refused (refusal.NotWellFounded name) other h =
      ap (λ r. verdict_at r (first_without_value made.datatypes) made) h.0 ∙ ap (λ e. verdict_at None e made) (first_where_empty made.datatypes name h.1)
  verdict_refused (refusal.NameTaken name) other h = refused_by (refusal.NameTaken name) h.0
  verdict_refused (refusal.UnknownSort name) other h = refused_by (refusal.UnknownSort name) h.0
  verdict_refused refusal.ArrayIndex other h = refused_by refusal.ArrayIndex h.0
  verdict_refused refusal.SortTooDeep other h = refused_by refusal.SortTooDeep h.0
  verdict_refused (refusal.TooMany limit) other h = refused_by (refusal.TooMany limit) h.0

  -- the fault that tells why one is refused
  told : {A : Type 0} (result : Result A TextErr) (place : ℕ) (next : Signature → Reading A) (why : SigErr) → group_verdict sig group preds ≡ Err why
      → Tells result (added_at place (Err why) >>> next) → Tells result (added_at place (group_verdict sig group preds) >>> next)
  told result place next why e h = subst (λ v. Tells result (added_at place v >>> next)) (sym e) h

  pub refusal_told : {A : Type 0} (result : Result A TextErr) (place : ℕ) (next : Signature → Reading A) (why : SigErr) → AddsGroup sig group preds (Err why) new → RefusesGroup result place why
      → Tells result (added_at place (group_verdict sig group preds) >>> next)
  refusal_told result place next refusal.NoMemory h r = subst (λ a. Tells a (added_at place (group_verdict sig group preds) >>> next)) (sym r) tt
  refusal_told result place next (refusal.NameTaken name) h r = told result place next (refusal.NameTaken name) (verdict_refused (refusal.NameTaken name) (λ e. cc) h) r
  refusal_told result place next (refusal.UnknownSort name) h r = told result place next (refusal.UnknownSort name) (verdict_refused (refusal.UnknownSort name) (λ e. cc) h) r
  refusal_told result place next refusal.ArrayIndex h r = told result place next refusal.ArrayIndex (verdict_refused refusal.ArrayIndex (λ e. cc) h) r
  refusal_told result place next refusal.SortTooDeep h r = told result place next refusal.SortTooDeep (verdict_refused refusal.SortTooDeep (λ e. cc) h) r
  refusal_told result place next (refusal.TooMany limit) h r = told result place next (refusal.TooMany limit) (verdict_refused (refusal.TooMany limit) (λ e. cc) h) r
  refusal_told result place next (refusal.NotWellFounded name) h r = told result place next (refusal.NotWellFounded name) (verdict_refused (refusal.NotWellFounded name) (λ e. cc) h) r
