use Rattle.ans_model.proofs.TextLaws.{AreOwned}
use Rattle.ans_model.proofs.owners.owners_of.Given as goal

abbrev pub invariant-loop-p : goal.invariant-loop-p
invariant-loop-p l = AreOwned l.d l.p l.owners.items
