use Rattle.std.proofs.Common.{◌≡◌, ◌<◌, ◌++◌, length, ap, ◌∙◌, arith}
use Rattle.chc_print.specs.Texts.{name_at}
use Rattle.ans_model.specs.Texts.{definition_text, definitions_text}
use Rattle.ans_model.proofs.TextLaws.{next_line}
use Rattle.ans_model.proofs.text.write_definitions.Goals as goal

pub loop-k-preserved : goal.loop-k-preserved
loop-k-preserved c =
    let names = c.args.names.now in
    let k = c.loop-k.k in
    let d = c.index-defs-k.result in
    let low : k < length c.args.defs.now = omega arith in
    let named : c.call_name.result.now ≡ name_at names.calls k = c.call_name.ensures in
    let line : c.write_definition.new.out ≡ c.loop-k.out ++ definition_text names (name_at names.calls k) d =
    c.in_ok-write_definition.ensures ∙ ap (λ name. c.loop-k.out ++ definition_text names name d) named in
    next_line names k c.args.defs.now d c.loop-k.out c.write_definition.new.out (c.args.out.now ++ definitions_text names 0 c.args.defs.now)
    low c.index-defs-k.is c.loop-k.invariant line
