use Rattle.std.proofs.Common.{true, false, sym, subst}
use Rattle.chc_state.specs.States.{StateView}
use Rattle.chc_state.specs.Passes.{Applies}
use Rattle.pass_slice.specs.Voids.{without_clause}
use Rattle.pass_slice.proofs.Voiding.{void_applies}
use Rattle.pass_slice.proofs.kinds.VoidPass.apply.Goals as goal

pub returns-clause-applied : goal.returns-clause-applied
returns-clause-applied c =
    subst (λ (z : StateView). Applies without_clause (λ j. true) (λ j. false) c.args.s c.args.k.now z) (sym c.remove.ensures)
    (void_applies c.args.s c.args.k.now c.kept.ensures c.requires)
