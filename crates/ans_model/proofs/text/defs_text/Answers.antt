use Rattle.std.proofs.Common.{subst}
use Rattle.chc_sorts.specs.Made.{CanBeMade}
use Rattle.ans_model.proofs.TextAgain.{text_again}
use Rattle.ans_model.proofs.TextLaws.{only_text}
use Rattle.ans_model.proofs.TextUnlimited.{text_unlimited}
use Rattle.ans_model.proofs.text.defs_text.Goals as goal

pub returns-clause-only : goal.returns-clause-only
returns-clause-only c = only_text c.args.d.now c.args.s.now c.args.names.now c.in_ok-text.text c.in_ok-text.ensures.text

pub returns-clause-again : goal.returns-clause-again
returns-clause-again c =
    let made = subst CanBeMade c.sig.ensures c.made_of_groups.ensures in
    text_again c.args.d.now c.args.s.now c.args.names.now c.in_ok-text.text c.requires (c.signatures_are_fresh.ensures c.args.s.now.sig made) c.written_terms_are_near.ensures
    c.texts_hold_bound.ensures c.binders_hold_theirs.ensures c.in_ok-text.ensures.text

pub returns-clause-free : goal.returns-clause-free
returns-clause-free c = λ named spelled.
    let made = subst CanBeMade c.sig.ensures c.made_of_groups.ensures in
    text_unlimited c.args.d.now c.args.s.now c.args.names.now c.in_ok-text.text c.requires (c.signatures_are_fresh.ensures c.args.s.now.sig made) c.written_terms_are_near.ensures
    c.texts_hold_bound.ensures c.binders_hold_theirs.ensures c.in_ok-text.ensures.text named spelled c.in_ok-text.ensures.short
