use Rattle.std.proofs.Common.{arith}
use Rattle.std.proofs.lemmas.Map.Text.{text_keys}
use Rattle.chc_source.proofs.faults.Faults.enter.Goals as goal

pub returns-clause-same : goal.returns-clause-same
returns-clause-same c = record { reads = λ n. grind (arith, text_keys); writes = λ n. grind (arith, text_keys) }
