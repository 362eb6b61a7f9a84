use Rattle.std.proofs.Common.{subst}
use Rattle.chc_sorts.specs.Made.{CanBeMade}
use Rattle.chc_jobs.proofs.lift.print_script.Goals as goal

pub returns-clause-again : goal.returns-clause-again
returns-clause-again c = λ readable.
    let made = subst CanBeMade c.sig.ensures c.made_of_groups.ensures in
    let clauses = c.clauses-clauses.ensures in
    c.printed_scripts_are_read.ensures c.args.state.now c.args.names.now c.in_ok-text.text
    (record { made = made; formed = clauses.formed; live = clauses.live; within = clauses.within }) c.requires readable c.in_ok-text.ensures.text
