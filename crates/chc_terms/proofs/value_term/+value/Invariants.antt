use Rattle.std.proofs.Common.{◌≡◌, map, drop}
use Rattle.std.specs.List.{list_all}
use Rattle.chc_terms.specs.ValueTerms.{is_value_term}
use Rattle.chc_terms.proofs.value_term.+value.Given as goal

abbrev pub invariant-are_value_terms-loop-t : goal.invariant-are_value_terms-loop-t
invariant-are_value_terms-loop-t l = list_all (λ b. b) (map is_value_term (drop l.t-index l.t-items)) ≡ list_all (λ b. b) (map is_value_term l.ts)
