use Rattle.std.proofs.Common.{◌≡◌, drop}
use Rattle.std.specs.List.{list_all}
use Rattle.chc_values.specs.Ranges.{is_within, are_entries_within}
use Rattle.chc_values.proofs.range.+within.Given as goal

abbrev pub invariant-are_within-loop-value : goal.invariant-are_within-loop-value
invariant-are_within-loop-value l = list_all (is_within l.depth) (drop l.value-index l.value-items) ≡ list_all (is_within l.depth) l.values

abbrev pub invariant-are_entries_within-loop-entry : goal.invariant-are_entries_within-loop-entry
invariant-are_entries_within-loop-entry l = are_entries_within l.depth (drop l.entry-index l.entry-items) ≡ are_entries_within l.depth l.entries
