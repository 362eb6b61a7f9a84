use Rattle.std.proofs.Common.{◌≡◌, ◌++◌, drop, map}
use Rattle.std.specs.List.{concat}
use Rattle.chc_sexpr.specs.Spelling.{in_string}
use Rattle.chc_trace.proofs.text.write_bytes.Given as goal

abbrev pub invariant-loop-b : goal.invariant-loop-b
invariant-loop-b l = l.out ++ concat (map in_string (drop l.b-index l.bytes)) ≡ l.initial.out ++ concat (map in_string l.bytes)
