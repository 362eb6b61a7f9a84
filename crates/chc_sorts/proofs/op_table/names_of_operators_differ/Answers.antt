use Rattle.std.proofs.Common.{refl}
use Rattle.chc_sorts.specs.Operators.{operator_rows}
use Rattle.chc_sorts.proofs.Apart.{apart_from_test}
use Rattle.chc_sorts.proofs.op_table.names_of_operators_differ.Goals as goal

pub returns-clause-apart : goal.returns-clause-apart
returns-clause-apart c = apart_from_test operator_rows refl
