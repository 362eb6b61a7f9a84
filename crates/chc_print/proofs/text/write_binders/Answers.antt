use Rattle.chc_print.proofs.Room.{grown_by, binders_joined}
use Rattle.chc_print.proofs.text.write_binders.Goals as goal

pub returns-clause-room : goal.returns-clause-room
returns-clause-room c =
    grown_by _ _ _ _ c.in_ok-write_binder_texts.ensures (binders_joined c.args.names.now c.args.from c.args.sorts.now)
