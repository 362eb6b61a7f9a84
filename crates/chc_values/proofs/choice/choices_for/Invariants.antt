use Rattle.std.proofs.Common.{◌+◌, ◌≤◌, length}
use Rattle.chc_values.specs.Choices.{AreAllBelow}
use Rattle.chc_values.proofs.Choosing.{gaps}
use Rattle.chc_values.proofs.choice.choices_for.Given as goal

abbrev pub invariant-rounds : goal.invariant-rounds
invariant-rounds l = record { right : AreAllBelow l.sig l.height l.choices; room : l.height + gaps l.choices ≤ length l.datatypes }

abbrev pub decreases-rounds : goal.decreases-rounds
decreases-rounds l = gaps l.choices
