use Rattle.std.proofs.Common.{◌≡◌, ◌++◌, drop}
use Rattle.chc_values.specs.Choices.{next_choices}
use Rattle.chc_values.proofs.choice.next_choices.Given as goal

abbrev pub invariant-loop-d : goal.invariant-loop-d
invariant-loop-d l =
    l.made ++ next_choices l.choices l.height (drop l.d l.datatypes) (drop l.d l.choices) ≡ next_choices l.choices l.height l.datatypes l.choices
