use Rattle.std.proofs.Common.{◌≡◌, ◌∙◌, ◌++◌, ℕ, List, codes, map, ap, sym, arith}
use Rattle.std.proofs.lemmas.Grind.{common_steps}
use Rattle.chc_sexpr.specs.Writing.{spaced, tree_text}
use Rattle.chc_trace.specs.Kinds.{word_of, parts_of}
use Rattle.chc_trace.proofs.Texts.{step_line}
use Rattle.chc_trace.proofs.text.write_step.Goals as goal

pub returns-clause-text : goal.returns-clause-text
returns-clause-text c =
    let x = c.args.step.now in
    let written : c.extend-3.new.self ≡ c.args.out.now ++ (codes "(step " ++ word_of x ++ spaced (map tree_text (parts_of x)) ++ codes ")\n") = grind (arith, common_steps) in
    written ∙ ap (λ (more : List ℕ). c.args.out.now ++ more) (sym (step_line x))
