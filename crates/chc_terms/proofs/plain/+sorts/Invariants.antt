use Rattle.std.proofs.Common.{◌≡◌, map, drop}
use Rattle.std.specs.List.{list_all}
use Rattle.chc_terms.specs.Sorted.{sorts_fit}
use Rattle.chc_terms.proofs.plain.+sorts.Given as goal

abbrev pub invariant-all_sorts_fit-loop-t : goal.invariant-all_sorts_fit-loop-t
invariant-all_sorts_fit-loop-t l = list_all (λ b. b) (map (sorts_fit l.sig) (drop l.t-index l.t-items)) ≡ list_all (λ b. b) (map (sorts_fit l.sig) l.ts)
