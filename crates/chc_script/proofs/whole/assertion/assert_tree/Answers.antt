use Rattle.std.proofs.Common.{sym}
use Rattle.chc_script.proofs.SettingLaws.{condition_read, term_read_fits}
use Rattle.chc_script.proofs.whole.assertion.assert_tree.Goals as goal

pub add-requires-clause-sorted : goal.add-requires-clause-sorted
add-requires-clause-sorted c =
    condition_read c.what_is_read_is_well_sorted.ensures c.args.draft c.args.tree.now c.in_ok-term.term (sym c.in_ok-term.ensures) c.in_ok-check_condition.ensures.truth

pub add-requires-clause-fitting : goal.add-requires-clause-fitting
add-requires-clause-fitting c =
    term_read_fits c.what_is_read_is_well_sorted.ensures c.args.draft c.args.tree.now c.in_ok-term.term (sym c.in_ok-term.ensures) c.requires.spellable
