use Rattle.std.proofs.Common.{◌≡◌, drop}
use Rattle.chc_script.specs.Datatypes.{arities_read}
use Rattle.chc_script.proofs.whole.datatypes.check_arities.Given as goal

abbrev pub invariant-loop-head : goal.invariant-loop-head
invariant-loop-head l = arities_read l.place (drop l.head-index l.heads) ≡ arities_read l.place l.heads
