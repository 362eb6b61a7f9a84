use Rattle.std.proofs.Common.{◌≡◌, ◌+◌, ◌-◌, ◌≤◌, length, drop}
use Rattle.std.specs.List.{prefix_len}
use Rattle.chc_sexpr.specs.Scanning.{is_of}
use Rattle.chc_sexpr.proofs.kind.run_length.Given as goal

abbrev pub invariant-loop-count : goal.invariant-loop-count
invariant-loop-count l = (l.count ≤ length l.bytes) × (l.count + prefix_len (is_of l.kind) (drop l.count l.bytes) ≡ prefix_len (is_of l.kind) l.bytes)

abbrev pub decreases-loop-count : goal.decreases-loop-count
decreases-loop-count l = length l.initial.bytes - l.count
