use Rattle.std.proofs.Common.{◌≡◌, ℕ, ◌≤◌, false, take}
use Rattle.chc_print.specs.Prefix.{is_taken, marked}
use Rattle.chc_print.proofs.prefix.longest.Given as goal

abbrev pub invariant-loop-name : goal.invariant-loop-name
invariant-loop-name l = (k : ℕ) → l.most ≤ k → is_taken (take l.name-index l.names) (marked k) ≡ false
