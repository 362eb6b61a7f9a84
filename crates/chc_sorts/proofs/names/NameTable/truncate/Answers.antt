use Rattle.std.proofs.Common.{◌∙◌, map, ap, sym, take}
use Rattle.std.specs.List.{take-map}
use Rattle.chc_sorts.proofs.names.NameTable.truncate.Goals as goal

pub returns : goal.returns
returns c =
    ap (map (λ name. name.items)) c.truncate.ensures.keys
    ∙ sym (take-map (λ name. name.items) c.args.len c.self.inside.names.keys)
    ∙ ap (take c.args.len) c.self.view_is
