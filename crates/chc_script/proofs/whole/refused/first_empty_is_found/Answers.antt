use Rattle.chc_script.proofs.InhabitedLaws.{none_where_all, first_where_empty}
use Rattle.chc_script.proofs.whole.refused.first_empty_is_found.Goals as goal

pub returns : goal.returns
returns c = record { none = none_where_all; first = first_where_empty }
