use Rattle.std.proofs.Common.{◌≡◌, drop}
use Rattle.std.specs.List.{position_from}
use Rattle.chc_values.specs.Choices.{are_within}
use Rattle.chc_values.proofs.choice.first_within.Given as goal

abbrev pub invariant-loop-c : goal.invariant-loop-c
invariant-loop-c l =
    position_from (are_within l.choices l.height) l.c (drop l.c l.ctors) ≡ position_from (are_within l.choices l.height) 0 l.ctors
