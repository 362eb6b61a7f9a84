use Rattle.std.proofs.Common.{append_assoc}
use Rattle.chc_print.proofs.script.write_declaration.Goals as goal

pub returns : goal.returns
returns c =
    simp (
      c.in_ok-extend-3.ensures.added,
      c.in_ok-write_sorts.ensures,
      c.as_slice.ensures,
      c.signature.ensures,
      c.in_ok-extend-2.ensures.added,
      c.in_ok-write_symbol.ensures.value,
      c.pred_name.ensures,
      c.in_ok-extend.ensures.added,
      append_assoc,
    )
