use Rattle.std.proofs.Common.{◌≡◌, None, replicate}
use Rattle.chc_values.proofs.choice.no_choices.Given as goal

abbrev pub invariant-loop : goal.invariant-loop
invariant-loop l = l.made ≡ replicate l.counter None
