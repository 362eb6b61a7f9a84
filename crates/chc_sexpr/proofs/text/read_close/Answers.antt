use Rattle.std.proofs.Common.{sym, subst, drop, ◌∙◌}
use Rattle.chc_sexpr.specs.Drafts.{StepsTo}
use Rattle.chc_sexpr.proofs.Steps.{close_step, close_refused, first_byte}
use Rattle.chc_sexpr.proofs.text.read_close.Goals as goal

pub returns-then-len-eq0 : goal.returns-then-len-eq0
returns-then-len-eq0 c =
    let first = first_byte c.args.rest.now 41 c.requires.some c.requires.byte in
    rw c.fault.ensures (close_refused c.args.draft.now c.args.place c.args.rest.now first (sym c.len.ensures ∙ c.if-len-eq0.true))

pub returns : goal.returns
returns c =
    let rest = c.args.rest.now in
    let first = first_byte rest 41 c.requires.some c.requires.byte in
    subst (λ bs. StepsTo c.args.draft.now c.close.new.self c.args.place bs 1) (sym first)
    (close_step c.args.draft.now c.close.new.self c.args.place (drop 1 rest) c.in_ok-close.ensures)
