use Rattle.std.proofs.Common.{◌≡◌, List, length, sym, ap, ◌∙◌, arith}
use Rattle.std.proofs.lemmas.Option.{slice_get_within}
use Rattle.chc_state.specs.declared.clause.Clause.{Clause}
use Rattle.chc_state.specs.States.{StateView, uses_live}
use Rattle.chc_state.specs.Limits.{first_passed}
use Rattle.chc_state.specs.WellFormed.{are_well_formed}
use Rattle.pass_slice.specs.Voids.{without_clause}
use Rattle.pass_slice.proofs.Voiding.{uses_live-void, formed-void}
use Rattle.pass_slice.proofs.void.remove.Goals as goal
use Rattle.pass_slice.proofs.void.remove.Goals.{After-remove}

was : After-remove → StateView
was c = record { sig = c.into_parts-sig.result.0; preds = c.into_parts-sig.result.1; clauses = c.into_parts-sig.result.2 }

left : After-remove → StateView
left c = record { sig = c.into_parts-sig.result.0; preds = c.into_parts-sig.result.1; clauses = c.remove.new.self }

is : (c : After-remove) → left c ≡ without_clause c.args.s c.args.k
unfolding was left
is c =
    ap (λ (cs : List Clause). record (left c) { clauses = cs }) c.remove.ensures.rest
    ∙ ap (λ (z : StateView). without_clause z c.args.k) c.into_parts-sig.ensures.value

pub remove-requires : goal.remove-requires
remove-requires c =
    let inside = slice_get_within c.args.s.clauses c.args.k c.requires.clause c.requires.named in
    omega (arith, inside, ap (λ (z : StateView). length z.clauses) c.into_parts-sig.ensures.value)

pub of_parts-requires-clause-few : goal.of_parts-requires-clause-few
of_parts-requires-clause-few c = c.into_parts-sig.ensures.few

pub of_parts-requires-clause-live : goal.of_parts-requires-clause-live
unfolding was left
of_parts-requires-clause-live c =
    ap (λ (z : StateView). uses_live z.preds z.clauses) (is (goal.at.of_parts-requires-clause-live c).After-remove)
    ∙ uses_live-void c.args.s.preds c.args.s.clauses c.args.k (ap (λ (z : StateView). uses_live z.preds z.clauses) (sym c.into_parts-sig.ensures.value) ∙ c.into_parts-sig.ensures.live)

pub of_parts-requires-clause-within : goal.of_parts-requires-clause-within
unfolding was left
of_parts-requires-clause-within c =
    ap (λ (z : StateView). first_passed z.preds z.clauses) (is (goal.at.of_parts-requires-clause-within c).After-remove) ∙ c.requires.within

pub of_parts-requires-clause-formed : goal.of_parts-requires-clause-formed
unfolding was left
of_parts-requires-clause-formed c =
    ap (λ (z : StateView). are_well_formed z.sig z.preds z.clauses) (is (goal.at.of_parts-requires-clause-formed c).After-remove)
    ∙ formed-void c.args.s c.args.k (ap (λ (z : StateView). are_well_formed z.sig z.preds z.clauses) (sym c.into_parts-sig.ensures.value) ∙ c.into_parts-sig.ensures.formed)

pub returns : goal.returns
unfolding was left
returns c = c.of_parts.ensures ∙ is (goal.at.returns c).After-remove
