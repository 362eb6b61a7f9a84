use Rattle.pass_slice.proofs.Bounding.{unreached_finds}
use Rattle.pass_slice.proofs.unreached.chosen.Goals as goal

pub returns : goal.returns
returns c =
    unreached_finds c.args.s.now c.args.table.now c.in_ok-found.found c.clauses-clauses.ensures.within c.requires.bounds c.requires.settled c.in_ok-found.ensures
