use Rattle.std.proofs.Common.{arith, sym, subst, drop}
use Rattle.chc_sexpr.specs.Drafts.{StepsTo}
use Rattle.chc_sexpr.proofs.Steps.{open_step, open_refused, first_byte}
use Rattle.chc_sexpr.proofs.text.read_open.Goals as goal

pub returns-then-len-ge-MOST_OPEN : goal.returns-then-len-ge-MOST_OPEN
returns-then-len-ge-MOST_OPEN c =
    let first = first_byte c.args.rest.now 40 c.requires.some c.requires.byte in
    rw c.fault.ensures (open_refused c.args.draft.now c.args.place c.args.rest.now first (omega arith))

pub returns : goal.returns
returns c =
    let rest = c.args.rest.now in
    let first = first_byte rest 40 c.requires.some c.requires.byte in
    subst (λ bs. StepsTo c.args.draft.now c.open.new.self c.args.place bs 1) (sym first)
    (open_step c.args.draft.now c.open.new.self c.args.place (drop 1 rest) (omega arith) c.in_ok-open.ensures.groups c.in_ok-open.ensures.trees)
