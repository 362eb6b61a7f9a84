use Rattle.std.proofs.Common.{◌≡◌, true, length, List, ap, not}
use Rattle.std.specs.List.{list_all}
use Rattle.chc_state.specs.declared.clause.PredDecl.{PredDecl}
use Rattle.chc_steps.proofs.QueryAlone.{none_defined, defs_stand}
use Rattle.chc_steps.proofs.tests.defs_before.Goals as goal

pub back_defs-requires : goal.back_defs-requires
back_defs-requires c =
    let few : length c.in_ok-z.z.preds ≡ 4 = cc (c.if-len-eq4.true, c.len.ensures, ap length c.preds.ensures.value) in
    let dead : list_all (λ (p : PredDecl). not p.live) c.in_ok-z.z.preds ≡ true =
    cc (c.if-none_is_live.true, c.none_is_live.ensures, ap (λ (l : List PredDecl). list_all (λ (p : PredDecl). not p.live) l) c.preds-then-len-eq4.ensures.value) in
    defs_stand c.args.s c.in_ok-z.z c.in_ok-z.run'.steps c.in_ok-z.run'.undos c.in_ok-none.none c.in_ok-z.ensures.run
    (none_defined c.in_ok-none.none c.in_ok-z.z c.in_ok-none.ensures.list c.in_ok-none.ensures.of few dead)
