use Rattle.std.proofs.Common.{◌≡◌, ◌++◌, drop}
use Rattle.chc_print.proofs.helpers.add_bytes.Given as goal

abbrev pub invariant-loop-byte : goal.invariant-loop-byte
invariant-loop-byte l = l.name ++ drop l.byte-index l.bytes ≡ l.initial.name ++ l.bytes
