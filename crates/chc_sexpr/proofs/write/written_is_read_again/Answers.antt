use Rattle.chc_sexpr.proofs.Again.{read_again}
use Rattle.chc_sexpr.proofs.write.written_is_read_again.Goals as goal

pub returns : goal.returns
returns c = read_again
