use Rattle.std.proofs.Common.{◌≡◌, ◌+◌, ◌-◌, ◌≤◌, drop, length}
use Rattle.chc_state.specs.Refuting.{number_before}
use Rattle.pass_slice.proofs.sliced.number_of.Given as goal

-- the first `before` of the removed clauses stood before the clause, and those from `end` on after it
abbrev pub invariant-loop-before : goal.invariant-loop-before
invariant-loop-before l = record {
  order : l.before ≤ l.end;
  inside : l.end ≤ length l.gone;
  past : number_before l.gone l.k ≡ number_before (drop l.before l.gone) (l.k + l.before);
  stays : number_before (drop l.end l.gone) (l.k + l.end) ≡ l.k + l.end;
}

abbrev pub decreases-loop-before : goal.decreases-loop-before
decreases-loop-before l = l.end - l.before
