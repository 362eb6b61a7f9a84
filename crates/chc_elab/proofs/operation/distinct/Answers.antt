use Rattle.std.proofs.Common.{rules, arith, ◌≡◌, ◌≤◌, ◌+◌, ◌-◌, ◌++◌, List, length, map, drop, take, add-one, ap, sym, ◌∙◌, append_assoc}
use Rattle.std.proofs.lemmas.List.{take_all, length-drop}
use Rattle.chc_sorts.specs.declared.op.Op.TheVariants as op
use Rattle.chc_terms.specs.declared.term.Term.{Term}
use Rattle.chc_terms.specs.Counts.{size, size_all}
use Rattle.chc_elab.specs.Building.{sole, all_pairs, differ}
use Rattle.chc_elab.proofs.Building.{refused_of, front_within, size-sole, all_pairs-step}
use Rattle.chc_elab.proofs.operation.distinct.Goals as goal

pub returns-in_err-add_differences : goal.returns-in_err-add_differences
returns-in_err-add_differences c =
    let ts = c.args.terms.now in
    let all = all_pairs differ ts in
    let i = c.loop-i.i in
    let t = c.index-terms-i.result in
    let rest = drop (i + 1) ts in
    let pairs = map (differ t) rest in
    let next : all_pairs differ (drop i ts) ≡ pairs ++ all_pairs differ rest = all_pairs-step differ ts i (i + 1) t (add-one i) c.loop-i-test.true c.index-terms-i.is in
    let same : (c.loop-i.pile ++ pairs) ++ all_pairs differ rest ≡ all = append_assoc c.loop-i.pile pairs (all_pairs differ rest) ∙ sym (ap (λ (us : List Term). c.loop-i.pile ++ us) next) ∙ c.loop-i.invariant in
    let part : size_all (c.loop-i.pile ++ pairs) ≤ size (sole op.And all) = omega (arith, front_within (c.loop-i.pile ++ pairs) (all_pairs differ rest) all same, size-sole op.And all) in
    let cut : take (length ts - (i + 1)) rest ≡ rest = take_all (length ts - (i + 1)) rest (omega (arith, length-drop (i + 1) ts)) in
    let large = rw cut at c.in_err-add_differences.ensures.large in
    let whole = refused_of c.in_err-add_differences.field-0.0 (size_all (c.loop-i.pile ++ pairs)) (sole op.And all) large part in
    search (rules, whole)
