use Rattle.chc_sexpr.proofs.Fronts.{on_err, stayed}
use Rattle.chc_sexpr.proofs.write.write_string_bytes.Goals as goal

pub returns-in_err-write_string_byte-clause-front : goal.returns-in_err-write_string_byte-clause-front
returns-in_err-write_string_byte-clause-front c =
    on_err _ c.from_residual.result (stayed _ _ _ _ _ c.loop-b.invariant.1 c.loop-b.invariant.0 c.in_err-write_string_byte.ensures.same)
