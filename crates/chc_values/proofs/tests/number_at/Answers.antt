use Rattle.std.proofs.Common.{refl}
use Rattle.chc_values.proofs.ArrayLaws.{IsArray-from}
use Rattle.chc_values.proofs.tests.number_at.Goals as goal

pub array_get-requires : goal.array_get-requires
array_get-requires c = IsArray-from c.args.sig.now c.args.a.now c.in_ok-new.field-0 (c.if-not-is_of.ensures.0 refl)
