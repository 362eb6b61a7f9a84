use Rattle.std.proofs.Common.{◌≡◌, ◌++◌, drop, map}
use Rattle.chc_terms.proofs.demand.field_sorts.Given as goal

abbrev pub invariant-loop-field : goal.invariant-loop-field
invariant-loop-field l = l.sorts ++ map (λ f. f.sort) (drop l.field-index l.field-items) ≡ map (λ f. f.sort) l.fields
