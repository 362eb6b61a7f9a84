use Rattle.pass_slice.proofs.Voiding.{void_leads}
use Rattle.pass_slice.proofs.kinds.VoidPass.back_defs.Goals as goal

pub returns-clause-leads : goal.returns-clause-leads
returns-clause-leads c = λ s k stands defines. void_leads s k stands.state stands.legal c.args.d defines
