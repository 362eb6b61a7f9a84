use Rattle.std.proofs.Common.{refl}
use Rattle.chc_values.proofs.SortTests.{refuted}
use Rattle.chc_values.proofs.Keys.{fits_declared, fits_test}
use Rattle.chc_values.proofs.world.selector_fits.Goals as goal

pub returns-in-None : goal.returns-in-None
returns-in-None c = refuted (λ h. let f = fits_declared c.args.sig.now c.args.d c.args.c c.args.i c.args.v.now c.args.r.now h in c.in-None.ensures f.0 f.1)

pub returns-then-is_key : goal.returns-then-is_key
returns-then-is_key c =
    fits_test c.args.sig.now c.args.d c.args.c c.args.i c.args.v.now c.args.r.now c.is_of.result c.in-Some.field.now.sort c.in-Some.ensures (c.if-is_key.ensures.0 refl) c.is_of.ensures
