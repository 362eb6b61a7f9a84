use Rattle.std.proofs.Common.{rules, ◌∙◌}
use Rattle.std.specs.Str.{bytes_eq}
use Rattle.chc_sorts.proofs.Tables.{position-map, list_any-map}
use Rattle.chc_sorts.proofs.names.NameTable.number_of.Goals as goal

pub returns-clause-value : goal.returns-clause-value
returns-clause-value c = c.get_index_of.ensures.index ∙ position-map (λ name. name.items) (bytes_eq c.args.name.now) c.self.inside.names.keys ∙ search rules

pub returns-clause-found : goal.returns-clause-found
returns-clause-found c = c.get_index_of.ensures.found ∙ list_any-map (λ name. name.items) (bytes_eq c.args.name.now) c.self.inside.names.keys ∙ search rules
