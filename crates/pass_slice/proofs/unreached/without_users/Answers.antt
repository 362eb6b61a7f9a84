use Rattle.std.proofs.Common.{not, List, ap, ◌∙◌, rules}
use Rattle.std.specs.List.{filter}
use Rattle.std.proofs.lemmas.Fn.{filter_same}
use Rattle.chc_state.specs.declared.clause.Clause.{Clause}
use Rattle.pass_slice.specs.Slices.{body_meets}
use Rattle.pass_slice.specs.Tables.{marked}
use Rattle.pass_slice.proofs.unreached.without_users.Goals as goal

pub returns : goal.returns
returns c =
    c.from_vec.ensures
    ∙ filter_same _ (λ c'. not (body_meets (marked c.args.table.now) c')) _ (λ x b f' k. search rules) _ _ c.retain.ensures.filtered
    ∙ ap (λ (cs : List Clause). filter (λ c'. not (body_meets (marked c.args.table.now) c')) cs) c.into_vec-kept.ensures
