use Rattle.std.proofs.Common.{List, sym, subst}
use Rattle.std.proofs.Math.Logic.{∥∥₁_map}
use Rattle.std.proofs.lemmas.Bool.{false≢true}
use Rattle.chc_values.specs.declared.world.WorldEntry.{WorldEntry}
use Rattle.chc_values.specs.Worlds.{KeysOnce}
use Rattle.chc_values.proofs.Keys.{KeysOnce-added}
use Rattle.chc_values.proofs.world.World.add.Goals as goal

pub invariant_of-self : goal.invariant_of-self
invariant_of-self c = subst (λ (w : List WorldEntry). ∥ KeysOnce w ∥₁) (sym c.in_err-push.ensures.same) c.self.invariant

pub invariant_of-self-2 : goal.invariant_of-self-2
invariant_of-self-2 c =
    subst (λ (w : List WorldEntry). ∥ KeysOnce w ∥₁) (sym c.in_ok-push.ensures.added)
    (∥∥₁_map c.self.invariant (λ k. KeysOnce-added c.self.inside.entries c.args.entry k (λ h. false≢true (c.if-has_key.ensures.1 h))))
