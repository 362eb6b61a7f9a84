use Rattle.read_again.proofs.UsedDatatypes.{last_declared_is_used}
use Rattle.read_again.proofs.used.last_declared_is_used.Goals as goal

pub returns : goal.returns
returns c = last_declared_is_used
