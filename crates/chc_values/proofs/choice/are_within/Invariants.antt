use Rattle.std.proofs.Common.{◌≡◌, drop, map}
use Rattle.std.specs.List.{list_all}
use Rattle.chc_sorts.specs.declared.data.Field.{Field}
use Rattle.chc_values.specs.Choices.{is_within, are_within}
use Rattle.chc_values.proofs.choice.are_within.Given as goal

abbrev pub invariant-loop-field : goal.invariant-loop-field
invariant-loop-field l =
    list_all (is_within l.choices l.height) (map (λ (f : Field). f.sort) (drop l.field-index l.field-items)) ≡ are_within l.choices l.height l.ctor
