use Rattle.std.proofs.Common.{rules, ◌∙◌, ap}
use Rattle.std.specs.List.{list_any}
use Rattle.std.specs.Str.{bytes_eq}
use Rattle.std.specs.Map.{keys_of}
use Rattle.std.proofs.lemmas.Map.Made.{is_some-lookup}
use Rattle.chc_sorts.proofs.Tables.{list_any-map}
use Rattle.chc_sorts.proofs.Rows.{names-map}
use Rattle.chc_sorts.proofs.functions.FunctionTable.has.Goals as goal

pub returns : goal.returns
returns c =
    let es = c.self.inside.rows.entries in
    let name = c.args.name.now in
    c.contains_key.ensures
    ∙ is_some-lookup (λ k. bytes_eq name k.items) es
    ∙ list_any-map (λ k. k.items) (bytes_eq name) (keys_of es)
    ∙ ap (list_any (bytes_eq name)) (names-map (λ k. k.items) es)
    ∙ search rules
