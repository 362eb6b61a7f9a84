use Rattle.std.proofs.Common.{◌≡◌, drop}
use Rattle.std.specs.List.{list_all}
use Rattle.chc_sorts.specs.declared.sort.Sort.TheVariants as sort
use Rattle.chc_sorts.specs.Sorts.{same_sort}
use Rattle.chc_terms.proofs.demand.are_all_bool.Given as goal

abbrev pub invariant-loop-sort : goal.invariant-loop-sort
invariant-loop-sort l = list_all (same_sort sort.Bool) (drop l.sort-index l.sorts) ≡ list_all (same_sort sort.Bool) l.sorts
