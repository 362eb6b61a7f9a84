use Rattle.std.proofs.Common.{List, ℕ, refl, subst, sym}
use Rattle.sha2.specs.Sha256.{sha256}
use Rattle.chc_jobs.specs.Jobs.{SaysItself}
use Rattle.chc_jobs.proofs.lift.finish.Goals as goal

pub returns : goal.returns
returns c =
    let Z = c.in_ok-simplified.simplified.state in
    let Again : List ℕ → Type 0 = λ text. SaysItself Z c.args.names.now text in
    record {
      t = record { source = sha256 c.args.script.now; steps = c.in_ok-simplified.simplified.steps; target = c.in_ok-out.out };
      Z = Z;
      simplifies = c.in_ok-simplified.ensures.simplifies;
      belongs = record { source = refl; goes = c.in_ok-simplified.ensures.simplifies.goes; target = c.in_ok-out.ensures.text };
      target_is = sym c.in_ok-texts.ensures.same;
      again = subst Again (sym c.in_ok-texts.ensures.same) c.in_ok-out.ensures.again;
      tells = c.in_ok-texts.ensures.tells;
      says = c.in_ok-texts.ensures.says;
      clauses_before = c.clause_count-before.ensures;
      clauses_after = c.clause_count-after.ensures;
      steps_taken = c.len-steps.ensures;
    }
