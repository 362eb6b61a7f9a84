use Rattle.std.proofs.Common.{append_assoc}
use Rattle.ans_model.proofs.text.write_signature.Goals as goal

pub returns-clause-text : goal.returns-clause-text
returns-clause-text c =
    simp (
      c.in_ok-push.ensures.added,
      c.in_ok-write_sort.ensures,
      c.signature.ensures,
      c.in_ok-extend-3.ensures.added,
      c.in_ok-write_binders.ensures.text,
      c.as_slice.ensures,
      c.in_ok-extend-2.ensures.added,
      c.in_ok-write_symbol.ensures.value,
      c.in_ok-extend.ensures.added,
      append_assoc,
    )
