use Rattle.read_again.proofs.ClauseSizes.{room_is_enough}
use Rattle.read_again.proofs.laws.room_is_enough.Goals as goal

pub returns : goal.returns
returns c = room_is_enough
