use Rattle.std.proofs.Common.{rules, ◌∙◌}
use Rattle.chc_sorts.proofs.Rows.{look_up-map}
use Rattle.chc_sorts.proofs.functions.FunctionTable.get.Goals as goal

pub returns : goal.returns
returns c = c.copied.ensures ∙ c.get.ensures.value ∙ look_up-map (λ name. name.items) c.self.inside.rows.entries c.args.name.now ∙ search rules
