use Rattle.std.proofs.Common.{◌↔◌, drop}
use Rattle.chc_state.specs.Meaning.{In}
use Rattle.pass_slice.proofs.void.is_among.Given as goal

abbrev pub invariant-loop-a : goal.invariant-loop-a
invariant-loop-a l = In l.head l.body ↔ In l.head (drop l.a-index l.body)
