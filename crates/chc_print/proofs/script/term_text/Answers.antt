use Rattle.std.proofs.Common.{rules}
use Rattle.chc_print.proofs.OneText.{only_term}
use Rattle.chc_print.proofs.script.term_text.Goals as goal

pub returns-clause-only : goal.returns-clause-only
returns-clause-only c =
    only_term c.args.s.now c.args.names.now c.args.calls.now c.args.under c.args.t.now c.write_term.new.out
    (c.in_ok-prefix.prefix, c.in_ok-preds.preds, search rules, search rules, search rules)
