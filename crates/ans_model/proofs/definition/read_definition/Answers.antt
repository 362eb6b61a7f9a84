use Rattle.std.proofs.Common.{arith}
use Rattle.chc_elab.proofs.TreeCounts.{count_length}
use Rattle.ans_model.proofs.definition.read_definition.Goals as goal

pub elab_sorted-requires-clause-room : goal.elab_sorted-requires-clause-room
elab_sorted-requires-clause-room c =
    let few = count_length c.args.form.now.params.now in
    omega (arith, few, c.in_ok-names.ensures.count, c.requires.room)
