-- The names of a script that is read differ, by recursion over its commands.
use Rattle.read_again.proofs.ReadFresh.{read_fresh}
use Rattle.read_again.proofs.laws.names_that_are_read_differ.Goals as goal

pub returns : goal.returns
returns c = read_fresh
