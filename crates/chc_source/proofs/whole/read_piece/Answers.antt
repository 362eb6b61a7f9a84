use Rattle.std.proofs.Common.{rules, arith}
use Rattle.std.proofs.lemmas.Grind.{common_steps}
use Rattle.chc_source.proofs.Fronts.{front_longer}
use Rattle.chc_source.proofs.whole.read_piece.Goals as goal

pub returns-clause-front : goal.returns-clause-front
returns-clause-front g c = λ tells front.
    front_longer _ _ _ _ _ _ front (omega (arith, c.in_ok-count.ensures.count, c.read_at.auto.into)) (search rules) (c.in_ok-count.ensures.bytes tells) (grind (arith, common_steps))
