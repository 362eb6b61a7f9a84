use Rattle.std.proofs.Common.{◌≡◌, ◌<◌, ◌+◌, get_or, subst, None, Some, ap, arith, length, sym, ◌∙◌}
use Rattle.std.specs.Prelude.{slice_get}
use Rattle.std.proofs.lemmas.Option.{slice_get-get_or, slice_get_within}
use Rattle.chc_state.proofs.Added.{StandInList-defined}
use Rattle.ans_model.proofs.TextLaws.{AreOwned, owner_entered, owner_passed}
use Rattle.ans_model.proofs.owners.owners_of.Goals as goal
use Rattle.ans_model.proofs.owners.owners_of.Goals.{in-Some, in_default}

pub index_mut-requires : goal.index_mut-requires
index_mut-requires c =
    let d = c.args.d.now in
    let p = c.loop-p.p in
    let at : slice_get d.of p ≡ Some (Some c.in-Some.k) =
    ap (λ l. slice_get l p) (sym c.as_slice-entry-items.ensures)
    ∙ slice_get-get_or c.as_slice-entry-items.result.now p None c.loop-p-test.true
    ∙ ap (λ o. Some o) c.in-Some.is in
    let low = (StandInList-defined c.args.s.now d c.requires).below p c.in-Some.k at in
    omega (arith, low, c.loop-p.invariant.count)

pub loop-p-preserved : goal.loop-p-preserved
loop-p-preserved c =
    let d = c.args.d.now in
    let p = c.loop-p.p in
    let entry : slice_get d.of p ≡ Some (get_or c.as_slice-entry-items.result.now p None) =
    ap (λ l. slice_get l p) (sym c.as_slice-entry-items.ensures) ∙ slice_get-get_or c.as_slice-entry-items.result.now p None c.loop-p-test.true in
    elim c.match-entry.branch [
      | in-Some w ↦
          let at : slice_get d.of p ≡ Some (Some w.in-Some.k) = entry ∙ ap (λ o. Some o) w.in-Some.is in
          subst (AreOwned d (p + 1)) (λ i. (sym w.owners-is i).items)
          (owner_entered d p c.loop-p.owners.items c.loop-p.invariant w.in-Some.k at ((StandInList-defined c.args.s.now d c.requires).below p w.in-Some.k at) c.requires.apart)
      | in_default w ↦
          subst (AreOwned d (p + 1)) (λ i. (sym w.owners-is i).items)
          (owner_passed d p c.loop-p.owners.items c.loop-p.invariant (entry ∙ ap (λ o. Some o) w.in_default.is))
    ]

pub returns : goal.returns
returns c = record {
  count = c.loop-p.invariant.count;
  owned = λ p k at.
      let inside : p < length c.args.d.now.of = slice_get_within c.args.d.now.of p (Some k) at in
      let whole = ap length c.as_slice-entry-items.ensures in
      c.loop-p.invariant.owned p k (omega (arith, inside, whole, c.loop-p-test.false)) at;
  only = c.loop-p.invariant.only;
}
