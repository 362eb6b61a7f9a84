use Rattle.std.proofs.Common.{◌≡◌, [], drop}
use Rattle.chc_script.specs.Datatypes.{datas_after}
use Rattle.chc_script.proofs.whole.datatypes.read_datas.Given as goal

abbrev pub invariant-loop-i : goal.invariant-loop-i
invariant-loop-i l = datas_after l.place l.datas (drop l.i l.heads) (drop l.i l.bodies) ≡ datas_after l.place [] l.heads l.bodies
