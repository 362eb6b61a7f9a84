use Rattle.std.proofs.Common.{subst}
use Rattle.chc_sorts.specs.WellFounded.{IsWellFounded}
use Rattle.chc_state.proofs.state.State.kept.Goals as goal

pub returns : goal.returns
returns c =
    record {
      few = c.preds-preds.ensures.few;
      founded = subst IsWellFounded c.sig-sig.ensures c.well_founded.ensures;
      live = c.clauses-clauses.ensures.live;
      within = c.clauses-clauses.ensures.within;
      formed = c.clauses-clauses.ensures.formed;
    }
