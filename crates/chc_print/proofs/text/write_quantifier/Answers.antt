use Rattle.chc_print.proofs.Room.{grown_by, quantifier_room}
use Rattle.chc_print.proofs.text.write_quantifier.Goals as goal

pub returns-clause-room : goal.returns-clause-room
returns-clause-room c =
    grown_by _ _ _ _ c.in_ok-write_quantifier_text.ensures (quantifier_room c.args.names.now c.args.kind c.args.from c.args.sorts.now)
