use Rattle.std.proofs.Common.{map, drop}
use Rattle.chc_sorts.specs.Checks.{sort_found}
use Rattle.chc_sorts.specs.declared.spec.FieldSpec.{FieldSpec}
use Rattle.chc_sorts.proofs.PassLaws.{Leads}
use Rattle.chc_sorts.proofs.fields.check_fields.Given as goal

abbrev pub invariant-loop-field : goal.invariant-loop-field
invariant-loop-field l = Leads (sort_found l.names) l.initial.seen (map (λ (f : FieldSpec). f.sort) l.field-items) l.seen (map (λ (f : FieldSpec). f.sort) (drop l.field-index l.field-items))
