use Rattle.std.proofs.Common.{◌≡◌, length}
use Rattle.chc_state.specs.Passes.{IsFound}
use Rattle.chc_steps.specs.Runs.{Goes, IsRun}
use Rattle.chc_steps.proofs.Ranking.{rank_of}
use Rattle.chc_steps.proofs.generic.forward.Given as goal

-- the way so far: a run of choices that were found
abbrev pub invariant-loop-way : goal.invariant-loop-way
invariant-loop-way g l = record {
  run : IsRun g.P.Pass.after g.P.Pass.stands g.P.Pass.legal l.fn.s l.way.choices l.way.undos l.way.state;
  found : Goes g.P.Pass.after (IsFound g.P.Pass.chosen g.P.Pass.legal g.P.Pass.terms) l.fn.s l.way.choices l.way.state;
  as_many : length l.way.state.preds ≡ length l.fn.s.preds;
}

-- each step makes the measure less
abbrev pub decreases-loop-way : goal.decreases-loop-way
decreases-loop-way g l = rank_of l.way.state
