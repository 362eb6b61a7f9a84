use Rattle.std.proofs.Common.{◌-◌, sym, ap, subst, ◌∙◌, IsTrue}
use Rattle.chc_terms.specs.declared.term.Term.{Term}
use Rattle.chc_terms.specs.Counts.{size, depth}
use Rattle.chc_terms.specs.Shifted.{can_shift}
use Rattle.chc_elab.proofs.Reaches.{shifts}
use Rattle.chc_elab.proofs.reading.moved_under.Goals as goal

pub shift-requires : goal.shift-requires
shift-requires c =
    let up = c.args.variables - c.args.bound.now.under in
    subst (λ (t : Term). IsTrue (can_shift t c.args.bound.now.under up)) (sym c.term.ensures) (shifts c.args.bound.now.value.term c.args.bound.now.under up c.requires.room)

pub of-requires-clause-sized : goal.of-requires-clause-sized
of-requires-clause-sized c =
    c.size.ensures.value ∙ sym (c.in_ok-moved.ensures.keeps.same_size ∙ ap size c.term.ensures)

pub of-requires-clause-deep : goal.of-requires-clause-deep
of-requires-clause-deep c =
    c.depth.ensures.value ∙ sym (c.in_ok-moved.ensures.keeps.same_depth ∙ ap depth c.term.ensures)
