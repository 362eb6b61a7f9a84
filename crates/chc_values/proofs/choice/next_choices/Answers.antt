use Rattle.std.proofs.Common.{ap, ◌∙◌}
use Rattle.std.specs.List.{list_all}
use Rattle.chc_sorts.specs.Listing.{is_narrow}
use Rattle.chc_values.proofs.Narrow.{few_at}
use Rattle.chc_values.proofs.choice.next_choices.Goals as goal

pub next_choice-requires : goal.next_choice-requires
next_choice-requires c =
    few_at c.as_slice-datatype-items.result.now c.loop-d.d c.datatype-item.result (ap (list_all is_narrow) c.as_slice-datatype-items.ensures ∙ c.requires.narrow) c.loop-d-test.true c.datatype-item.is
