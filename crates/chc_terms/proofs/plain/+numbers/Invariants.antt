use Rattle.std.proofs.Common.{◌≡◌, map, drop}
use Rattle.std.specs.List.{list_all}
use Rattle.chc_terms.specs.Numbers.{numbers_fit}
use Rattle.chc_terms.proofs.plain.+numbers.Given as goal

abbrev pub invariant-all_numbers_fit-loop-t : goal.invariant-all_numbers_fit-loop-t
invariant-all_numbers_fit-loop-t l = list_all (λ b. b) (map numbers_fit (drop l.t-index l.t-items)) ≡ list_all (λ b. b) (map numbers_fit l.ts)
