use Rattle.std.proofs.Common.{◌≡◌, List, subst, sym, ◌∙◌, IsTrue}
use Rattle.chc_sorts.specs.Signature.{Signature}
use Rattle.chc_state.specs.declared.clause.Clause.{Clause}
use Rattle.chc_state.specs.declared.clause.PredDecl.{PredDecl}
use Rattle.chc_state.specs.WellFormed.{are_well_formed}
use Rattle.chc_jobs.proofs.lift.copying.copy_state.Goals as goal

pub of_parts-requires-clause-formed : goal.of_parts-requires-clause-formed
of_parts-requires-clause-formed c =
    let s = c.args.s.now in
    let sig : c.in_ok-sig.sig ≡ s.sig = c.in_ok-sig.ensures ∙ c.sig.ensures in
    let preds : c.in_ok-preds.preds ≡ s.preds = c.in_ok-preds.ensures ∙ c.preds.ensures.value in
    let clauses : c.in_ok-clauses.clauses ≡ s.clauses = c.in_ok-clauses.ensures ∙ c.clauses.ensures.value in
    subst (λ (x : Signature). IsTrue (are_well_formed x c.in_ok-preds.preds c.in_ok-clauses.clauses)) (sym sig)
    (subst (λ (x : List PredDecl). IsTrue (are_well_formed s.sig x c.in_ok-clauses.clauses)) (sym preds)
    (subst (λ (x : List Clause). IsTrue (are_well_formed s.sig s.preds x)) (sym clauses) c.clauses.ensures.formed))
