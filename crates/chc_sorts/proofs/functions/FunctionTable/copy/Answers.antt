use Rattle.std.proofs.Common.{◌∙◌}
use Rattle.std.specs.List.{each_same}
use Rattle.chc_sorts.proofs.Rows.{rows-cloned}
use Rattle.chc_sorts.proofs.functions.FunctionTable.copy.Goals as goal

pub returns : goal.returns
returns c =
    rows-cloned (λ k. k.items) _ (λ j k h. each_same j.items k.items h.0) _ (λ x y h. h) c.self.inside.rows.entries c.in_ok-rows.rows.entries c.in_ok-rows.ensures.cases
    ∙ c.self.view_is
