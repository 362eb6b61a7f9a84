-- No limits are wider than the limits on terms.
use Rattle.chc_elab.proofs.WiderLimits.{read_is_said}
use Rattle.chc_elab.proofs.laws.what_is_read_is_said.Goals as goal

pub returns : goal.returns
returns c = read_is_said
