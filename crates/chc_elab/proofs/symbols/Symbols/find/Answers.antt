use Rattle.std.proofs.Common.{rules, ◌∙◌}
use Rattle.chc_elab.proofs.SymbolRows.{look_up-map}
use Rattle.chc_elab.proofs.symbols.Symbols.find.Goals as goal

pub returns : goal.returns
returns c = c.get.ensures.value ∙ look_up-map (λ name. name.items) c.self.inside.rows.entries c.args.name.now ∙ search rules
