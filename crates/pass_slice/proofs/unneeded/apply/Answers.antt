use Rattle.std.proofs.Common.{◌≡◌, true, false, length, sym, ap, ◌∙◌, subst, arith, refl}
use Rattle.pass_slice.specs.Slices.{Slice, head_meets, sliced}
use Rattle.chc_state.specs.States.{StateView, uses_live}
use Rattle.chc_state.specs.Limits.{first_passed}
use Rattle.chc_state.specs.Passes.{Applies}
use Rattle.chc_state.specs.WellFormed.{are_well_formed}
use Rattle.pass_slice.proofs.Removing.{applies, uses_live-sliced, are_formed-sliced}
use Rattle.pass_slice.proofs.Taking.{left_is, length-sliced}
use Rattle.pass_slice.proofs.unneeded.apply.Goals as goal
use Rattle.pass_slice.proofs.unneeded.apply.Goals.{After-retire}

was : After-retire → StateView
was c = record { sig = c.into_parts-sig.result.0; preds = c.into_parts-sig.result.1; clauses = c.into_parts-sig.result.2 }

left : After-retire → StateView
left c = record { sig = c.into_parts-sig.result.0; preds = c.retire.result; clauses = c.without_concluders-clauses.result }

is : (c : After-retire) → left c ≡ sliced Slice.backward c.args.s c.args.ps.now
unfolding was left
is c =
    left_is head_meets c.args.s c.args.ps.now (left c) (record {
      table = c.in-Ok.prepared.table.items;
      clauses_table = c.deref.result.now;
      preds_table = c.deref-2.result.now;
      was = was c;
      same = c.in-Ok.ensures.table;
      one = c.deref.ensures.value;
      two = c.deref-2.ensures.value;
      parts = c.into_parts-sig.ensures.value;
      sig = refl;
      clauses = c.without_concluders-clauses.ensures;
      preds = c.retire.ensures;
    })

pub of_parts-left-requires-clause-few : goal.of_parts-left-requires-clause-few
unfolding was left
of_parts-left-requires-clause-few c =
    let same = is (goal.at.of_parts-left-requires-clause-few c).After-retire in
    omega (arith, ap (λ (z : StateView). length z.preds) same, length-sliced Slice.backward c.args.s c.args.ps.now, ap (λ (z : StateView). length z.preds) c.into_parts-sig.ensures.value, c.into_parts-sig.ensures.few)

pub of_parts-left-requires-clause-live : goal.of_parts-left-requires-clause-live
unfolding was left
of_parts-left-requires-clause-live c =
    let same = is (goal.at.of_parts-left-requires-clause-live c).After-retire in
    ap (λ (z : StateView). uses_live z.preds z.clauses) same
    ∙ uses_live-sliced Slice.backward c.args.s c.args.ps.now c.requires (ap (λ (z : StateView). uses_live z.preds z.clauses) (sym c.into_parts-sig.ensures.value) ∙ c.into_parts-sig.ensures.live)

pub of_parts-left-requires-clause-within : goal.of_parts-left-requires-clause-within
unfolding was left
of_parts-left-requires-clause-within c =
    let same = is (goal.at.of_parts-left-requires-clause-within c).After-retire in
    ap (λ (z : StateView). first_passed z.preds z.clauses) same ∙ c.requires.within

pub of_parts-left-requires-clause-formed : goal.of_parts-left-requires-clause-formed
unfolding was left
of_parts-left-requires-clause-formed c =
    let same = is (goal.at.of_parts-left-requires-clause-formed c).After-retire in
    ap (λ (z : StateView). are_well_formed z.sig z.preds z.clauses) same
    ∙ are_formed-sliced Slice.backward c.args.s c.args.ps.now (ap (λ (z : StateView). are_well_formed z.sig z.preds z.clauses) (sym c.into_parts-sig.ensures.value) ∙ c.into_parts-sig.ensures.formed)

pub returns-clause-applied : goal.returns-clause-applied
unfolding was left
returns-clause-applied c =
    let same : c.of_parts-left.result ≡ sliced Slice.backward c.args.s c.args.ps.now = c.of_parts-left.ensures ∙ is (goal.at.returns-clause-applied c).After-retire in
    subst (λ z. Applies (sliced Slice.backward) (λ ps. true) (λ ps. false) c.args.s c.args.ps.now z) (sym same) (applies Slice.backward c.args.s c.args.ps.now c.requires)
