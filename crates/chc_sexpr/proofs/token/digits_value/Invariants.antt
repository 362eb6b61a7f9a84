use Rattle.std.proofs.Common.{◌≡◌, ◌^◌, ◌<◌, take}
use Rattle.std.specs.Str.Parse.{AllDigits, digits_value}
use Rattle.chc_sexpr.proofs.token.digits_value.Given as goal

abbrev pub invariant-loop-b : goal.invariant-loop-b
invariant-loop-b l = record {
  digits : AllDigits 10 (take l.b-index l.bytes);
  small : l.value < 2 ^ 127;
  same : l.value ≡ digits_value 10 (take l.b-index l.bytes);
}
