use Rattle.std.proofs.Common.{◌≡◌, ◌-◌, true, ◌&&◌, sym, ap, ◌∙◌, arith}
use Rattle.chc_values.specs.Ranges.{is_within, are_entries_within}
use Rattle.chc_values.proofs.RangeLaws.{is_within-Data, is_within-Array}
use Rattle.chc_values.proofs.range.+within.Goals as goal

pub is_within-returns-in-Data : goal.is_within-returns-in-Data
is_within-returns-in-Data t c =
    let made = is_within-Data c.args.depth c.in-Data.field-0 c.in-Data.field-1 c.in-Data.fields (omega arith) in
    c.are_within.ensures ∙ sym made ∙ ap (is_within c.args.depth) (sym c.in-Data.is)

pub is_within-returns-then-is_within : goal.is_within-returns-then-is_within
is_within-returns-then-is_within t c =
    let made = is_within-Array c.args.depth c.in-Array.default c.in-Array.exceptions (omega arith) in
    let first : true ≡ is_within (c.args.depth - 1) c.in-Array.default = sym c.if-is_within.true ∙ c.is_within.ensures ∙ ap (is_within (c.args.depth - 1)) c.get.ensures in
    c.are_entries_within.ensures ∙ ap (λ b. b && are_entries_within (c.args.depth - 1) c.in-Array.exceptions) first ∙ sym made ∙ ap (is_within c.args.depth) (sym c.in-Array.is)
