use Rattle.chc_values.proofs.Datatypes.{default_of}
use Rattle.chc_values.proofs.default.default_of.Goals as goal

-- a default is of its sort
pub returns-clause-of_sort : goal.returns-clause-of_sort
returns-clause-of_sort c = default_of c.args.sig.now c.in_ok-value.ensures
