use Rattle.std.proofs.Common.{◌≡◌, map, drop}
use Rattle.chc_sorts.specs.Groups.{Declared}
use Rattle.chc_sorts.specs.Checks.{name_found}
use Rattle.chc_sorts.specs.declared.spec.FieldSpec.{FieldSpec}
use Rattle.chc_sorts.proofs.PassLaws.{Leads}
use Rattle.chc_sorts.proofs.taken.declare_fields.Given as goal

abbrev pub invariant-loop-field : goal.invariant-loop-field
invariant-loop-field l = (Leads (name_found l.sig l.preds) l.initial.own (map (λ (f : FieldSpec). Declared.of_function f.name) l.fields) l.own (map (λ (f : FieldSpec). Declared.of_function f.name) (drop l.field-index l.fields))) × (l.own.sorts ≡ l.initial.own.sorts)
