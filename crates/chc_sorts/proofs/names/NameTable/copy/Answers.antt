use Rattle.std.proofs.Common.{◌∙◌}
use Rattle.std.specs.List.{each_same}
use Rattle.chc_sorts.proofs.Rows.{names-cloned}
use Rattle.chc_sorts.proofs.names.NameTable.copy.Goals as goal

pub returns : goal.returns
returns c =
    names-cloned (λ k. k.items) _ (λ j k h. each_same j.items k.items h.0) c.self.inside.names.keys c.in_ok-names.names.keys c.in_ok-names.ensures.cases
    ∙ c.self.view_is
