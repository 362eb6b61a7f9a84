use Rattle.std.proofs.Common.{◌≡◌, drop}
use Rattle.std.specs.List.{list_all}
use Rattle.chc_sexpr.specs.Tokens.{is_symbol_byte}
use Rattle.chc_sexpr.proofs.token.are_symbol_bytes.Given as goal

abbrev pub invariant-loop-b : goal.invariant-loop-b
invariant-loop-b l = list_all is_symbol_byte (drop l.b-index l.bytes) ≡ list_all is_symbol_byte l.bytes
