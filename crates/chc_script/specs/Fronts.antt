-- Negations in front of an assertion.
use Rattle.std.specs.Prelude.{Bool, true, false}
use Rattle.chc_sorts.specs.declared.op.Op.{Op}
use Rattle.chc_sorts.specs.declared.op.Op.TheVariants as op
use Rattle.chc_script.specs.declared.horn.side.Side.{Side}
use Rattle.chc_script.specs.declared.horn.side.Side.TheVariants as side

-- whether the operator on a side is a negation of what is assumed
abbrev pub negates : Op → Side → Bool
negates op.Not side.Concluded = true
negates o s = false
