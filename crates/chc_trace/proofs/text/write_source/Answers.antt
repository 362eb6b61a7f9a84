use Rattle.std.proofs.Common.{◌≡◌, ◌∙◌, ◌++◌, ℕ, List, codes, ap, sym, arith}
use Rattle.std.proofs.lemmas.Grind.{common_steps}
use Rattle.chc_sexpr.specs.Spelling.{string_of}
use Rattle.hex.specs.Hex.{encode_lower}
use Rattle.chc_trace.proofs.Texts.{source_line}
use Rattle.chc_trace.proofs.text.write_source.Goals as goal

pub returns-clause-text : goal.returns-clause-text
returns-clause-text c =
    let digest = c.args.source.now in
    let written : c.extend-2.new.self ≡ c.args.out.now ++ (codes "(source " ++ string_of (encode_lower digest) ++ codes ")\n") = grind (arith, common_steps) in
    written ∙ ap (λ (more : List ℕ). c.args.out.now ++ more) (sym (source_line digest))
