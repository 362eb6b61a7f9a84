use Rattle.chc_terms.proofs.AlikeLaws.{tells}
use Rattle.chc_terms.proofs.equality.alike.Goals as goal

pub returns : goal.returns
returns c = rw c.is_same_term.ensures (tells c.args.a.now c.args.b.now)
