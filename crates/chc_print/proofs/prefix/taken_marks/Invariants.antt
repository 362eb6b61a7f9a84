use Rattle.std.proofs.Common.{◌≡◌, ℕ, ◌<◌, false, take, length, get_or}
use Rattle.chc_print.specs.Prefix.{is_taken, marked}
use Rattle.chc_print.proofs.prefix.taken_marks.Given as goal

abbrev pub invariant-loop-name : goal.invariant-loop-name
invariant-loop-name l = record {
  size : length l.taken.items ≡ l.count;
  value : (k : ℕ) → k < l.count → get_or l.taken.items k false ≡ is_taken (take l.name-index l.names) (marked k);
}
