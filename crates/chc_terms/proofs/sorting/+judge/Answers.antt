use Rattle.std.proofs.Common.{◌≡◌, ap, sym, ◌∙◌, true, Ok, Err}
use Rattle.std.proofs.lemmas.Result.{err_from_is_err_and}
use Rattle.chc_sorts.specs.declared.sort.Sort.{Sort}
use Rattle.chc_sorts.specs.declared.sort.Sort.TheVariants as sort
use Rattle.chc_sorts.specs.Sorts.{same_sort}
use Rattle.chc_terms.specs.declared.context.SortErr.TheVariants as refusal
use Rattle.chc_terms.specs.Sorted.{when}
use Rattle.chc_terms.specs.Judged.{judged, judged_node, or_refused, declared_in}
use Rattle.chc_terms.proofs.Judging.{answers_same, entered_is, quantifier_is, refused_on, passed_on}
use Rattle.chc_terms.proofs.sorting.+judge.Goals as goal

pub judge-returns-in_err-enter-in-Quant-clause-value : goal.judge-returns-in_err-enter-in-Quant-clause-value
judge-returns-in_err-enter-in-Quant-clause-value t c =
    let cx = declared_in c.args.cx.now in let vars = c.args.cx.now.vars.now in let bound = c.args.bound.now in
    let same = quantifier_is cx c.args.t.now c.in-Quant.field-0 c.in-Quant.sorts c.in-Quant.body vars bound c.in-Quant.is in
    let p = err_from_is_err_and c.from_residual-in_err-enter-in-Quant.result c.from_residual-in_err-enter-in-Quant.ensures.1 in
    passed_on c.from_residual-in_err-enter-in-Quant.result c.in_err-enter-in-Quant.field-0.0 (judged cx c.args.t.now _) _ (p.1 ∙ ap Err p.2) same (c.in_err-enter-in-Quant.ensures _)

pub judge-returns-in_err-sort-in-Quant-clause-value : goal.judge-returns-in_err-sort-in-Quant-clause-value
judge-returns-in_err-sort-in-Quant-clause-value t c =
    let cx = declared_in c.args.cx.now in let vars = c.args.cx.now.vars.now in let bound = c.args.bound.now in
    let entered = c.in_ok-enter-in-Quant.ensures in
    let same = entered_is cx c.args.t.now c.in-Quant.field-0 c.in-Quant.sorts c.in-Quant.body c.get.result.now vars bound c.enter.new.bound c.in-Quant.is entered.0 entered.1 entered.2 c.get.ensures in
    let p = err_from_is_err_and c.from_residual-in_err-sort-in-Quant.result c.from_residual-in_err-sort-in-Quant.ensures.1 in
    passed_on c.from_residual-in_err-sort-in-Quant.result c.in_err-sort-in-Quant.field-0.0 (judged cx c.args.t.now _) _ (p.1 ∙ ap Err p.2) same
    (refused_on c.in_err-sort-in-Quant.field-0.0 (judged cx c.get.result.now _) (λ (s : Sort). when (same_sort s sort.Bool) sort.Bool) c.in_err-sort-in-Quant.ensures.value)

pub judge-returns-in_ok-sort-in-Quant-clause-value : goal.judge-returns-in_ok-sort-in-Quant-clause-value
judge-returns-in_ok-sort-in-Quant-clause-value t c =
    let cx = declared_in c.args.cx.now in let vars = c.args.cx.now.vars.now in let bound = c.args.bound.now in
    let entered = c.in_ok-enter-in-Quant.ensures in
    let same = entered_is cx c.args.t.now c.in-Quant.field-0 c.in-Quant.sorts c.in-Quant.body c.get.result.now vars bound c.enter.new.bound c.in-Quant.is entered.0 entered.1 entered.2 c.get.ensures in
    let found : Ok c.in_ok-sort-in-Quant.sort ≡ judged cx c.get.result.now _ = c.in_ok-sort-in-Quant.ensures.value in
    answers_same c.given-in-Quant.result (judged cx c.args.t.now _)
    (c.given-in-Quant.ensures ∙ ap (λ b. or_refused refusal.WrongSort (when b sort.Bool)) c.same_sort.ensures
    ∙ ap (λ r. judged_node true true r (λ (s : Sort). when (same_sort s sort.Bool) sort.Bool)) found ∙ sym same)
