use Rattle.std.proofs.Common.{All, take}
use Rattle.chc_values.specs.declared.world.WorldEntry.{WorldEntry}
use Rattle.chc_values.specs.Worlds.{SameKey}
use Rattle.chc_values.proofs.world.has_key.Given as goal

abbrev pub invariant-loop-other : goal.invariant-loop-other
invariant-loop-other l = All (λ (e : WorldEntry). SameKey l.entry e → ⊥) (take l.other-index l.other-items)
