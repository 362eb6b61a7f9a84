use Rattle.std.proofs.Common.{◌≡◌, ◌++◌, drop}
use Rattle.chc_terms.specs.Judged.{declared_in, judged_all}
use Rattle.chc_terms.proofs.Judging.{in_front}
use Rattle.chc_terms.proofs.sorting.+judge.Given as goal

abbrev pub invariant-judge_all-loop-t : goal.invariant-judge_all-loop-t
invariant-judge_all-loop-t l = record {
  kept : l.bound ≡ l.fn.bound;
  same : in_front l.sorts (judged_all (declared_in l.cx) (drop l.t-index l.t-items) (l.cx.vars.now ++ l.fn.bound)) ≡ judged_all (declared_in l.cx) l.terms (l.cx.vars.now ++ l.fn.bound);
}
