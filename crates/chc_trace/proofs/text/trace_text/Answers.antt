use Rattle.std.proofs.Common.{◌≡◌, ◌∙◌, ◌++◌, codes, map, rules, subst, sym}
use Rattle.std.specs.List.{concat, All}
use Rattle.chc_trace.specs.Kinds.{HasSmallNumbers}
use Rattle.chc_trace.specs.Traces.{line, source_tree, step_tree, target_tree, trace_lines, SaysTrace}
use Rattle.chc_trace.proofs.Texts.{lines_are}
use Rattle.chc_trace.proofs.Printed.{lines_say}
use Rattle.chc_trace.proofs.FirstUnfit.{said_read_as}
use Rattle.chc_trace.proofs.text.trace_text.Goals as goal

-- the text is the lines of the trace
lines : (c : goal.In_ok-write_target) → c.write_target.new.out ≡ trace_lines c.args.t.now
lines c =
    let t = c.args.t.now in
    let written : c.write_target.new.out ≡ codes "(chc-trace 1)\n" ++ line (source_tree t.source) ++ concat (map (λ x. line (step_tree x)) t.steps) ++ line (target_tree t.target) = search rules in
    written ∙ sym (lines_are t)

-- so it says the trace
says : (c : goal.In_ok-write_target) → SaysTrace c.write_target.new.out c.args.t.now
says c =
    let t = c.args.t.now in
    let small = subst (All HasSmallNumbers) c.as_slice.ensures c.in_ok-write_steps.ensures.small in
    subst (λ bytes. SaysTrace bytes t) (sym (lines c)) (lines_say t c.in_ok-write_source.ensures.digest small)

pub returns : goal.returns
returns c = record { lines = lines c; says = says c; again = said_read_as c.write_target.new.out c.args.t.now (says c) }
