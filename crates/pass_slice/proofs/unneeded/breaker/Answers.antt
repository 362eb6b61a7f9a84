use Rattle.std.proofs.Common.{not, ◌||◌, List, length, ap, arith}
use Rattle.chc_state.specs.declared.clause.Clause.{Clause}
use Rattle.pass_slice.specs.Slices.{body_meets, head_meets}
use Rattle.chc_state.proofs.Members.{all_from_places}
use Rattle.pass_slice.specs.Tables.{marked}
use Rattle.pass_slice.proofs.unneeded.breaker.Goals as goal

pub returns : goal.returns
returns c =
    all_from_places (λ x. head_meets (marked c.args.table.now) x || not (body_meets (marked c.args.table.now) x)) c.args.s.now.clauses
    (λ j inside x e. c.loop-k.invariant j (omega (arith, ap (λ (cs : List Clause). length cs) c.clauses.ensures.value)) x e)
