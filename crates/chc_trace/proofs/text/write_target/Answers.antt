use Rattle.std.proofs.Common.{◌≡◌, ◌∙◌, ◌++◌, ℕ, List, codes, ap, sym, arith}
use Rattle.std.proofs.lemmas.Grind.{common_steps}
use Rattle.chc_sexpr.specs.Spelling.{string_of}
use Rattle.chc_trace.proofs.Texts.{target_line}
use Rattle.chc_trace.proofs.text.write_target.Goals as goal

pub returns : goal.returns
returns c =
    let text = c.args.target.now in
    let written : c.extend-2.new.self ≡ c.args.out.now ++ (codes "(target " ++ string_of text ++ codes ")\n") = grind (arith, common_steps) in
    written ∙ ap (λ (more : List ℕ). c.args.out.now ++ more) (sym (target_line text))
