use Rattle.std.proofs.Common.{ap, ◌∙◌, append_assoc, arith}
use Rattle.chc_values.specs.declared.value.Value.{Value}
use Rattle.chc_print.specs.Texts.{sort_text}
use Rattle.chc_print.specs.Values.{value_sort}
use Rattle.chc_print.proofs.ValueTexts.{sorted-Bool, sorted-Int, sorted-Data, sorted-Array}
use Rattle.chc_print.proofs.value.+write_sort_of.Goals as goal

pub returns-in_ok-extend-in-Bool : goal.returns-in_ok-extend-in-Bool
returns-in_ok-extend-in-Bool t c =
    let sig = c.args.sig.now in
    let sort = ap (λ (v : Value). sort_text sig (value_sort sig v)) c.in-Bool.is ∙ sorted-Bool sig c.in-Bool.field-0 in
    grind (arith, append_assoc, sort)

pub returns-in_ok-extend-in-Int : goal.returns-in_ok-extend-in-Int
returns-in_ok-extend-in-Int t c =
    let sig = c.args.sig.now in
    let sort = ap (λ (v : Value). sort_text sig (value_sort sig v)) c.in-Int.is ∙ sorted-Int sig c.in-Int.field-0 in
    grind (arith, append_assoc, sort)

pub returns-in_ok-write_symbol-in-Data : goal.returns-in_ok-write_symbol-in-Data
returns-in_ok-write_symbol-in-Data t c =
    let sig = c.args.sig.now in
    let sort = ap (λ (v : Value). sort_text sig (value_sort sig v)) c.in-Data.is ∙ sorted-Data sig c.in-Data.d c.in-Data.field-1 c.in-Data.field-2 in
    grind (arith, append_assoc, sort)

pub returns-in_ok-push-in-Array : goal.returns-in_ok-push-in-Array
returns-in_ok-push-in-Array t c =
    let sig = c.args.sig.now in
    let sort = ap (λ (v : Value). sort_text sig (value_sort sig v)) c.in-Array.is ∙ sorted-Array sig c.in-Array.default c.in-Array.field-1 in
    grind (arith, append_assoc, sort)
