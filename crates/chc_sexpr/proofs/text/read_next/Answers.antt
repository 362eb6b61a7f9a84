use Rattle.std.proofs.Common.{get_or, sym, subst, refl, drop, ◌∙◌}
use Rattle.chc_sexpr.specs.Drafts.{StepsTo}
use Rattle.chc_sexpr.proofs.Steps.{white_step, comment_step_by, first_byte}
use Rattle.chc_sexpr.proofs.text.read_next.Goals as goal

pub returns-in-59 : goal.returns-in-59
returns-in-59 c =
    let rest = c.args.rest.now in
    comment_step_by c.args.draft.now c.args.place c.comment_length.result rest (first_byte rest 59 c.requires.some c.in-59.is) c.comment_length.ensures

pub returns-then-is_white : goal.returns-then-is_white
returns-then-is_white c =
    let d = c.args.draft.now in
    let rest = c.args.rest.now in
    let b = get_or rest 0 0 in
    subst (λ bs. StepsTo d d c.args.place bs 1) (sym (first_byte rest b c.requires.some refl)) (white_step d c.args.place b (drop 1 rest) (sym c.is_white.ensures ∙ c.if-is_white.true))
