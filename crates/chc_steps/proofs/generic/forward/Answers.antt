use Rattle.std.proofs.Common.{List, refl, sym, ◌∙◌, subst}
use Rattle.chc_state.specs.Passes.{IsFound}
use Rattle.chc_steps.specs.Runs.{Goes}
use Rattle.chc_steps.proofs.Ranking.{rank_of-less}
use Rattle.chc_steps.proofs.RunLaws.{IsRun-none, IsRun-longer, Goes-more}
use Rattle.chc_steps.proofs.generic.forward.Goals as goal

pub loop-way-init : goal.loop-way-init
loop-way-init g c = record {
  run = rw (c.new.ensures, c.new-2.ensures) (IsRun-none g.P.Pass.after g.P.Pass.stands g.P.Pass.legal c.args.s);
  found = rw c.new.ensures refl;
  as_many = refl;
}

pub take-requires : goal.take-requires
take-requires g c = let found = rw c.in-Some.is at c.in_ok-choice.ensures in found.may_be_taken

pub loop-way-preserved : goal.loop-way-preserved
loop-way-preserved g c =
    let found = rw c.in-Some.is at c.in_ok-choice.ensures in
    let applied = c.in_ok-way.ensures.applied in
    let before = c.loop-way.way in
    let now = c.in_ok-way.way in
    let P : List g.row.P-Choice.Denot → Type 0 = λ l. Goes g.P.Pass.after (IsFound g.P.Pass.chosen g.P.Pass.legal g.P.Pass.terms) c.args.s l now.state in
    record {
      run = IsRun-longer g.P.Pass.after g.P.Pass.stands g.P.Pass.legal c.args.s before.choices now.choices before.undos now.undos before.state c.in-Some.choice now.state c.loop-way.invariant.run found.may_be_taken applied.taken applied.answer applied.same_sig c.in_ok-way.ensures.choices c.in_ok-way.ensures.undos;
      found = subst P (sym c.in_ok-way.ensures.choices) (Goes-more g.P.Pass.after (IsFound g.P.Pass.chosen g.P.Pass.legal g.P.Pass.terms) c.args.s before.choices before.state c.in-Some.choice now.state c.loop-way.invariant.found found applied.taken);
      as_many = applied.as_many (c.requires.adds before.state c.in-Some.choice found.the_choice) ∙ c.loop-way.invariant.as_many;
    }

pub loop-way-smaller : goal.loop-way-smaller
loop-way-smaller g c =
    let found = rw c.in-Some.is at c.in_ok-choice.ensures in
    let applied = c.in_ok-way.ensures.applied in
    rank_of-less c.loop-way.way.state c.in_ok-way.way.state c.in_ok-way.ensures.state applied.same_sig (applied.falls (c.requires.reduces c.loop-way.way.state c.in-Some.choice found.the_choice))
