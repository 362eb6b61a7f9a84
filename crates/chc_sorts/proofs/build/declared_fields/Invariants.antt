use Rattle.std.proofs.Common.{◌≡◌, map, take}
use Rattle.chc_sorts.specs.Groups.{field_declared}
use Rattle.chc_sorts.proofs.build.declared_fields.Given as goal

abbrev pub invariant-loop-field : goal.invariant-loop-field
invariant-loop-field l = l.made ≡ map (field_declared l.names) (take l.field-index l.fields)
