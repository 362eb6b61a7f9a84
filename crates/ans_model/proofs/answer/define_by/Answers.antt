use Rattle.std.proofs.Common.{arith}
use Rattle.ans_model.specs.Forms.{form_seen}
use Rattle.ans_model.proofs.FormLaws.{form_parts}
use Rattle.ans_model.proofs.answer.define_by.Goals as goal

pub define-requires-clause-room : goal.define-requires-clause-room
define-requires-clause-room c =
    let parts = form_parts c.args.tree.now (form_seen c.in-Some.form) c.in-Some.ensures in
    omega (arith, parts.room, c.requires.room)
