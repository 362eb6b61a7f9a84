use Rattle.std.proofs.Common.{List, sym, ap, ◌∙◌}
use Rattle.std.specs.Prelude.{slice_get}
use Rattle.chc_state.specs.declared.clause.Clause.{Clause}
use Rattle.pass_slice.proofs.Voiding.{can_void_from, no_clause}
use Rattle.pass_slice.proofs.void.can_void.Goals as goal

pub returns-in-Some : goal.returns-in-Some
returns-in-Some c =
    can_void_from c.args.s.now c.args.k c.in-Some.c.now c.can_go.result
    (ap (λ (cs : List Clause). slice_get cs c.args.k) (sym c.clauses.ensures.value) ∙ sym c.in-Some.ensures.value) c.clauses.ensures.within c.can_go.ensures

pub returns-in-None : goal.returns-in-None
returns-in-None c =
    no_clause c.args.s.now c.args.k (ap (λ (cs : List Clause). slice_get cs c.args.k) (sym c.clauses.ensures.value) ∙ sym c.in-None.ensures.value)
