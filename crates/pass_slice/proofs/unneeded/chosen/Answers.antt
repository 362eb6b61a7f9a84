use Rattle.pass_slice.proofs.Bounding.{unneeded_finds}
use Rattle.pass_slice.proofs.unneeded.chosen.Goals as goal

pub returns : goal.returns
returns c =
    unneeded_finds c.args.s.now c.args.table.now c.in_ok-found.found c.clauses-clauses.ensures.within c.requires.bounds c.requires.settled c.in_ok-found.ensures
