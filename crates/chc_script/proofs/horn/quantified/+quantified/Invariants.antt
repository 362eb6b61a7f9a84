use Rattle.std.proofs.Common.{◌≡◌, map, drop}
use Rattle.std.specs.List.{list_all}
use Rattle.chc_terms.specs.Sorted.{is_unquantified}
use Rattle.chc_script.proofs.horn.quantified.+quantified.Given as goal

abbrev pub invariant-are_unquantified-loop-term : goal.invariant-are_unquantified-loop-term
invariant-are_unquantified-loop-term l = list_all (λ b. b) (map is_unquantified (drop l.term-index l.term-items)) ≡ list_all (λ b. b) (map is_unquantified l.terms)
