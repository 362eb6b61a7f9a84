use Rattle.read_again.proofs.ScriptRead.{printed_is_read}
use Rattle.read_again.proofs.laws.printed_scripts_are_read.Goals as goal

pub returns : goal.returns
returns c = printed_is_read
