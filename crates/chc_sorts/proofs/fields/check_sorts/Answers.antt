use Rattle.std.proofs.Common.{Some, None, Err, Result, cond, sym, ap, ◌∙◌, subst, false}
use Rattle.std.specs.Prelude.{⊤}
use Rattle.std.proofs.lemmas.Result.{err_from_is_err_and}
use Rattle.chc_sorts.specs.declared.refusal.SigErr.{SigErr}
use Rattle.chc_sorts.specs.declared.refusal.SigErr.TheVariants as refusal
use Rattle.chc_sorts.specs.Groups.{field_specs}
use Rattle.chc_sorts.specs.Checks.{Checks, sort_found}
use Rattle.chc_sorts.proofs.PassLaws.{checks_err, found_behind}
use Rattle.chc_sorts.proofs.fields.check_sorts.Goals as goal

pub returns-in_err-check_all : goal.returns-in_err-check_all
returns-in_err-check_all c =
    let p = err_from_is_err_and c.from_residual.result c.from_residual.ensures.1 in
    subst (λ (r : Result ⊤ SigErr). Checks r (sort_found c.args.names.now (record { misindexed = false; deep = false }) (field_specs c.args.group.now))) (sym (p.1 ∙ ap Err p.2))
    (checks_err (sort_found c.args.names.now) (record { misindexed = false; deep = false }) (field_specs c.args.group.now) c.check_all.new.seen c.in_err-check_all.field-0.0 c.in_err-check_all.ensures)

pub returns-then-seen : goal.returns-then-seen
returns-then-seen c =
    found_behind (sort_found c.args.names.now) (record { misindexed = false; deep = false }) (field_specs c.args.group.now) c.check_all.new.seen tt c.in_ok-check_all.ensures
    ∙ ap (λ b. cond b (Some refusal.ArrayIndex) (cond c.check_all.new.seen.deep (Some refusal.SortTooDeep) None)) c.if-seen.true

pub returns-then-seen-2 : goal.returns-then-seen-2
returns-then-seen-2 c =
    found_behind (sort_found c.args.names.now) (record { misindexed = false; deep = false }) (field_specs c.args.group.now) c.check_all.new.seen tt c.in_ok-check_all.ensures
    ∙ ap (λ b. cond b (Some refusal.ArrayIndex) (cond c.check_all.new.seen.deep (Some refusal.SortTooDeep) None)) c.if-seen.false
    ∙ ap (λ b. cond b (Some refusal.SortTooDeep) None) c.if-seen-2.true

pub returns : goal.returns
returns c =
    found_behind (sort_found c.args.names.now) (record { misindexed = false; deep = false }) (field_specs c.args.group.now) c.check_all.new.seen tt c.in_ok-check_all.ensures
    ∙ ap (λ b. cond b (Some refusal.ArrayIndex) (cond c.check_all.new.seen.deep (Some refusal.SortTooDeep) None)) c.if-seen.false
    ∙ ap (λ b. cond b (Some refusal.SortTooDeep) None) c.if-seen-2.false
