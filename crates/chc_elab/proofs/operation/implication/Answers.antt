use Rattle.std.proofs.Common.{rules, arith, ◌≡◌, ◌≤◌, ◌<◌, ◌∷◌, ◌++◌, [], List, length, ap, sym, ◌∙◌}
use Rattle.std.specs.Vec.Iter.{into_iter_items}
use Rattle.chc_sorts.specs.declared.op.Op.TheVariants as op
use Rattle.chc_terms.specs.declared.term.Term.{Term}
use Rattle.chc_terms.specs.declared.term.Term.TheVariants.{App}
use Rattle.chc_terms.specs.Counts.{size, size_all}
use Rattle.chc_elab.specs.Building.{negated, negated_before_last}
use Rattle.chc_elab.proofs.Building.{refused_in, refused_of, next_within, push_within, size-under, before_last-next}
use Rattle.chc_elab.proofs.operation.implication.Goals as goal

pub returns-in_err-negated : goal.returns-in_err-negated
returns-in_err-negated c =
    let t = c.in-Some.term in
    let rest = into_iter_items c.next.new.self in
    let all = negated_before_last c.args.terms in
    let step : into_iter_items c.loop-term.term-iterator ≡ t ∷ rest = c.in-Some.ensures.steps.0 in
    let some : 0 < length rest = omega (arith, ap length step, c.loop-term.invariant.left, c.if-left-eq0.false) in
    let next : negated_before_last (into_iter_items c.loop-term.term-iterator) ≡ negated t ∷ negated_before_last rest = ap negated_before_last step ∙ before_last-next t rest some in
    let same : c.loop-term.pile ++ (negated t ∷ negated_before_last rest) ≡ all = sym (ap (λ (us : List Term). c.loop-term.pile ++ us) next) ∙ c.loop-term.invariant.made in
    let part : size (negated t) ≤ size (App op.Or all) = omega (arith, next_within c.loop-term.pile (negated t) (negated_before_last rest) all same, size-under op.Or all) in
    let whole = refused_in c.in_err-negated.field-0.0 (negated t) (App op.Or all) c.in_err-negated.ensures part in
    search (rules, whole)

pub returns-in_err-push-2 : goal.returns-in_err-push-2
returns-in_err-push-2 c =
    let t = c.in-Some.term in
    let rest = into_iter_items c.next.new.self in
    let all = negated_before_last c.args.terms in
    let step : into_iter_items c.loop-term.term-iterator ≡ t ∷ rest = c.in-Some.ensures.steps.0 in
    let some : 0 < length rest = omega (arith, ap length step, c.loop-term.invariant.left, c.if-left-eq0.false) in
    let next : negated_before_last (into_iter_items c.loop-term.term-iterator) ≡ negated t ∷ negated_before_last rest = ap negated_before_last step ∙ before_last-next t rest some in
    let same : c.loop-term.pile ++ (negated t ∷ negated_before_last rest) ≡ all = sym (ap (λ (us : List Term). c.loop-term.pile ++ us) next) ∙ c.loop-term.invariant.made in
    let part : size_all (c.loop-term.pile ++ negated t ∷ []) ≤ size (App op.Or all) = omega (arith, push_within c.loop-term.pile (negated t) (negated_before_last rest) all same, size-under op.Or all) in
    let is : c.in_ok-negated.field-0 ≡ negated t = c.in_ok-negated.ensures in
    let large = rw is at c.in_err-push-2.ensures.large in
    let whole = refused_of c.in_err-push-2.field-0.0 _ (App op.Or all) large part in
    search (rules, whole)
