use Rattle.read_again.proofs.UsedDatatypes.{used_are_declared}
use Rattle.read_again.proofs.used.used_are_declared.Goals as goal

pub returns : goal.returns
returns c = used_are_declared
