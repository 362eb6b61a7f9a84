use Rattle.std.proofs.Common.{◌≡◌, ◌-◌, ◌≤◌, length, drop}
use Rattle.chc_sexpr.specs.Scanning.{string_from}
use Rattle.chc_sexpr.proofs.Strings.{behind_front}
use Rattle.chc_sexpr.proofs.token.string_bytes.Given as goal

abbrev pub invariant-loop-at : goal.invariant-loop-at
invariant-loop-at l = (l.at ≤ length l.behind) × (behind_front l.text l.at (string_from (drop l.at l.behind)) ≡ string_from l.behind)

abbrev pub decreases-loop-at : goal.decreases-loop-at
decreases-loop-at l = length l.behind - l.at
