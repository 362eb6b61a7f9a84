use Rattle.std.proofs.Common.{◌≡◌, map, drop}
use Rattle.std.specs.List.{list_all}
use Rattle.chc_terms.specs.Sorted.{is_plain}
use Rattle.chc_terms.proofs.plain.+plain.Given as goal

abbrev pub invariant-are_plain-loop-t : goal.invariant-are_plain-loop-t
invariant-are_plain-loop-t l = list_all (λ b. b) (map is_plain (drop l.t-index l.t-items)) ≡ list_all (λ b. b) (map is_plain l.ts)
