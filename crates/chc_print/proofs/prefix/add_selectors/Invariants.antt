use Rattle.std.proofs.Common.{◌≡◌, ◌++◌, drop, map}
use Rattle.chc_sorts.specs.declared.data.Field.{Field}
use Rattle.chc_print.proofs.prefix.add_selectors.Given as goal

abbrev pub invariant-loop-field : goal.invariant-loop-field
invariant-loop-field l = l.used ++ map (λ (f : Field). f.name) (drop l.field-index l.fields) ≡ l.initial.used ++ map (λ (f : Field). f.name) l.fields
