use Rattle.std.proofs.Common.{rules, arith, ◌≡◌, ◌≤◌, ◌∷◌, ap, sym, ◌∙◌}
use Rattle.std.specs.Vec.Iter.{into_iter_items}
use Rattle.chc_terms.specs.Counts.{size}
use Rattle.chc_elab.specs.Building.{joined_from, joined_left}
use Rattle.chc_elab.specs.Builds.{joins}
use Rattle.chc_elab.proofs.Building.{refused_in, size-joined_from}
use Rattle.chc_elab.proofs.operation.joined_left.Goals as goal

pub returns-in_err-joined : goal.returns-in_err-joined
returns-in_err-joined c =
    let j = joins c.args.joint.now in
    let rest = into_iter_items c.next-in-loop-term.new.self in
    let made = j c.loop-term.joined c.in-Some-term.term in
    let step : into_iter_items c.loop-term.term-iterator ≡ c.in-Some-term.term ∷ rest = c.in-Some-term.ensures.steps.0 in
    let same : joined_from j made rest ≡ joined_left j c.args.terms = sym (ap (joined_from j c.loop-term.joined) step) ∙ c.loop-term.invariant in
    let part : size made ≤ size (joined_left j c.args.terms) = omega (arith, size-joined_from c.args.joint.now made rest, ap size same) in
    let whole = refused_in c.in_err-joined.field-0.0 made (joined_left j c.args.terms) c.in_err-joined.ensures part in
    search (rules, whole)
