-- What is read stands, and what stands within the limits is well sorted, by recursion over why it stands.
use Rattle.chc_elab.proofs.ReadsWell.{reads_well}
use Rattle.chc_elab.proofs.laws.what_is_read_is_well_sorted.Goals as goal

pub returns : goal.returns
returns c = reads_well
