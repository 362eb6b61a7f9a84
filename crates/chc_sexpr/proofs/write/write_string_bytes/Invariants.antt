use Rattle.std.proofs.Common.{◌≡◌, ◌≤◌, ◌++◌, length, drop, map}
use Rattle.std.specs.List.{concat}
use Rattle.chc_sexpr.specs.Spelling.{in_string}
use Rattle.chc_sexpr.proofs.write.write_string_bytes.Given as goal

abbrev pub invariant-loop-b : goal.invariant-loop-b
invariant-loop-b l =
    (length l.initial.out ≤ length l.out) × (l.out ++ concat (map in_string (drop l.b-index l.bytes)) ≡ l.initial.out ++ concat (map in_string l.bytes))
