use Rattle.std.proofs.Common.{◌∙◌, map, ap, sym, take}
use Rattle.std.specs.List.{take-map}
use Rattle.chc_sorts.proofs.Rows.{row_of}
use Rattle.chc_sorts.proofs.functions.FunctionTable.truncate.Goals as goal

pub returns : goal.returns
returns c =
    ap (map (row_of (λ name. name.items))) c.truncate.ensures.entries
    ∙ sym (take-map (row_of (λ name. name.items)) c.args.len c.self.inside.rows.entries)
    ∙ ap (take c.args.len) c.self.view_is
