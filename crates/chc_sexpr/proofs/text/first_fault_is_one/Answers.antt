use Rattle.chc_sexpr.proofs.OneFault.{one_fault}
use Rattle.chc_sexpr.proofs.text.first_fault_is_one.Goals as goal

pub returns : goal.returns
returns c = one_fault
