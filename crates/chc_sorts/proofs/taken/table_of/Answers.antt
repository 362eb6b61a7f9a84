use Rattle.std.proofs.Common.{List, ℕ, take, sym, ap, ◌∙◌}
use Rattle.chc_sorts.specs.Names.{has_name}
use Rattle.chc_sorts.proofs.PassLaws.{take_here}
use Rattle.chc_sorts.proofs.TakenLaws.{same_more}
use Rattle.chc_sorts.proofs.taken.table_of.Goals as goal

pub loop-name-preserved : goal.loop-name-preserved
loop-name-preserved c = λ name.
    c.in_ok-add_once.ensures name
    ∙ same_more c.loop-name.table (take c.loop-name.name-index c.args.names.now) c.name-item.result c.loop-name.invariant name
    ∙ ap (λ (l : List (List ℕ)). has_name l name) (sym (take_here c.args.names.now c.loop-name.name-index c.name-item.result c.loop-name-test.true c.name-item.is))
