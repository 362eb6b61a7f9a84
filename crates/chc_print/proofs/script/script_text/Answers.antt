use Rattle.std.proofs.Common.{rules, ◌≡◌}
use Rattle.std.proofs.lemmas.Result.{IfOk-weaker}
use Rattle.chc_print.specs.Script.{lines_of_script, script_names, IsScriptText}
use Rattle.chc_print.proofs.OneText.{only_script}
use Rattle.chc_print.proofs.script.script_text.Goals as goal

pub returns-clause-only : goal.returns-clause-only
returns-clause-only c =
    let s = c.args.s.now in
    let names = c.args.names.now in
    IfOk-weaker c.text_of.result (λ text. text ≡ lines_of_script (script_names s c.in_ok-preds.preds c.in_ok-prefix.prefix) s) (λ text. (other : _) → IsScriptText s names other → other ≡ text)
    (λ text e. only_script s names text (c.in_ok-prefix.prefix, c.in_ok-preds.preds, search rules, search rules, e))
    (search rules)
