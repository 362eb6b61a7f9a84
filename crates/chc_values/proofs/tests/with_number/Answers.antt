use Rattle.std.proofs.Common.{refl}
use Rattle.chc_values.proofs.ArrayLaws.{IsArray-from}
use Rattle.chc_values.proofs.tests.with_number.Goals as goal

pub array_set-requires : goal.array_set-requires
array_set-requires c = IsArray-from c.args.sig.now c.args.a c.in_ok-new.field-0 (c.if-not-is_of.ensures.0 refl)
