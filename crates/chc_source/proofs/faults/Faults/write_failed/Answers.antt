use Rattle.std.proofs.Common.{arith}
use Rattle.std.proofs.lemmas.Map.Text.{text_keys}
use Rattle.chc_source.proofs.faults.Faults.write_failed.Goals as goal

pub returns-in-Some : goal.returns-in-Some
returns-in-Some c = record {
  rose = grind (arith, text_keys);
  counts = λ n. record { never_falls = grind (arith, text_keys); stands_still = grind (arith, text_keys) };
  other_writes = λ n h. grind (arith, text_keys);
  reads = λ n. grind (arith, text_keys);
}
