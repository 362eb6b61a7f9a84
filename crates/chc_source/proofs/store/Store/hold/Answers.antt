use Rattle.std.proofs.Common.{arith}
use Rattle.std.proofs.lemmas.Map.Text.{text_keys}
use Rattle.chc_source.proofs.store.Store.hold.Goals as goal

pub returns-clause-held : goal.returns-clause-held
returns-clause-held c = record { held = grind (arith, text_keys); others = λ n h. grind (arith, text_keys) }
