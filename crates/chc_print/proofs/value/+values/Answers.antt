use Rattle.chc_print.proofs.ValueTexts.{text_of_array, part_by_part}
use Rattle.chc_print.proofs.value.+values.Goals as goal

pub write_value-returns-in_ok-write_store_endings-in-Array : goal.write_value-returns-in_ok-write_store_endings-in-Array
write_value-returns-in_ok-write_store_endings-in-Array t c =
    let whole =
    text_of_array c.args.sig.now c.args.value.now c.in-Array.default c.get.result.now c.get-in-Array.result.now c.in-Array.exceptions c.len.result c.in-Array.is c.len.ensures c.get.ensures
    c.get-in-Array.ensures in
    part_by_part _ _ _ _ _ _ _ _ _ _ _ _ _ _ c.in_ok-write_store_openings-in-Array.ensures c.in_ok-write_constant_head-in-Array.ensures c.in_ok-write_value-in-Array.ensures
    c.in_ok-push-in-Array.ensures.added c.in_ok-write_store_endings-in-Array.ensures whole
