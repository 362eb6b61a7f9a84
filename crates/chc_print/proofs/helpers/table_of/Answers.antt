use Rattle.std.proofs.Common.{List, ℕ, take, sym, ap, ◌∙◌}
use Rattle.chc_sorts.specs.Names.{has_name}
use Rattle.chc_print.proofs.HelperLaws.{same_once, take_here}
use Rattle.chc_print.proofs.helpers.table_of.Goals as goal

pub loop-name-preserved : goal.loop-name-preserved
loop-name-preserved c = λ name.
    let names = c.args.names.now in
    let before = take c.loop-name.name-index names in
    ap (λ (l : List (List ℕ)). has_name l name) c.in_ok-add_once.ensures
    ∙ same_once c.loop-name.table before c.name-item.result c.loop-name.invariant name
    ∙ ap (λ (l : List (List ℕ)). has_name l name) (sym (take_here names c.loop-name.name-index c.name-item.result c.loop-name-test.true c.name-item.is))
