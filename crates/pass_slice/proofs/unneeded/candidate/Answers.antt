use Rattle.std.proofs.Common.{sym, ap, ◌∙◌, List}
use Rattle.std.specs.Prelude.{slice_get}
use Rattle.chc_state.specs.declared.clause.Clause.{Clause}
use Rattle.pass_slice.proofs.Bounding.{candidate_needed}
use Rattle.pass_slice.proofs.unneeded.candidate.Goals as goal

pub returns-in-Some : goal.returns-in-Some
returns-in-Some c =
    candidate_needed c.args.s.now c.args.table.now c.args.k c.in-Some.c.now c.needed_by.result c.requires
    (ap (λ (cs : List Clause). slice_get cs c.args.k) (sym c.clauses.ensures.value) ∙ sym c.in-Some.ensures.value) c.needed_by.ensures
