use Rattle.std.proofs.Common.{◌≡◌, ◌≢◌, ◌∙◌, refl, subst, sym, true≢false}
use Rattle.sha2.specs.Sha256.{sha256}
use Rattle.chc_print.specs.Script.{IsScriptText}
use Rattle.chc_jobs.proofs.LiftLaws.{other_target}
use Rattle.chc_jobs.proofs.lift.model.follow.Goals as goal

pub returns-then-not-is_target-clause-refused : goal.returns-then-not-is_target-clause-refused
returns-then-not-is_target-clause-refused c =
    let source : c.args.trace.source ≡ sha256 c.args.bytes.now = c.is_kept.ensures.0 c.if-not-is_kept.false ∙ c.digest-found.ensures in
    let apart : c.args.trace.target ≢ c.in_ok-text.text = λ e. true≢false (sym (c.is_target.ensures.1 (sym e)) ∙ c.if-not-is_target.true) in (
      source,
      refl,
      other_target c.args.script.now c.args.trace.steps c.in_ok-replayed.replayed.state c.args.trace.target c.in_ok-text.text
          (rw c.as_slice.ensures at c.in_ok-replayed.ensures.goes) c.in_ok-text.ensures.text c.in_ok-text.ensures.only apart,
    )

pub returns-clause-belongs : goal.returns-clause-belongs
returns-clause-belongs c = record {
  source = c.is_kept.ensures.0 c.if-not-is_kept.false ∙ c.digest-found.ensures;
  goes = rw c.as_slice.ensures at c.in_ok-replayed.ensures.goes;
  target =
      subst (IsScriptText c.in_ok-replayed.replayed.state c.args.script.now.names) (c.is_target.ensures.0 c.if-not-is_target.false)
      c.in_ok-text.ensures.text;
}
