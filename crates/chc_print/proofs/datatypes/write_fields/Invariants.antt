use Rattle.std.proofs.Common.{◌≡◌, ◌++◌, drop, map}
use Rattle.chc_sexpr.specs.Writing.{spaced}
use Rattle.chc_print.specs.Datatypes.{field_text}
use Rattle.chc_print.proofs.datatypes.write_fields.Given as goal

abbrev pub invariant-loop-field : goal.invariant-loop-field
invariant-loop-field l = l.out ++ spaced (map (field_text l.sig) (drop l.field-index l.fields)) ≡ l.initial.out ++ spaced (map (field_text l.sig) l.fields)
