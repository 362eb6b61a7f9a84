use Rattle.std.proofs.Common.{arith, map, length}
use Rattle.std.proofs.lemmas.List.{length-map}
use Rattle.chc_sorts.specs.declared.data.Field.{Field}
use Rattle.chc_sorts.proofs.SameSort.{other_lengths}
use Rattle.chc_elab.proofs.sorting.are_fields.Goals as goal

pub returns-then-sorts-fields : goal.returns-then-sorts-fields
returns-then-sorts-fields c =
    let same = length-map c.args.fields.now (λ (f : Field). f.sort) in
    other_lengths c.args.sorts.now (map (λ (f : Field). f.sort) c.args.fields.now) (λ e. omega arith)
