use Rattle.std.proofs.Common.{◌≡◌, ◌++◌, drop, Ok}
use Rattle.chc_elab.specs.Binders.{sorts_of_trees, second_trees}
use Rattle.chc_elab.specs.Settings.{setting_of}
use Rattle.chc_elab.specs.Sites.{◌>>>◌}
use Rattle.chc_elab.proofs.binding.binder_sorts.Given as goal

abbrev pub invariant-loop-pair : goal.invariant-loop-pair
invariant-loop-pair l =
    (sorts_of_trees (setting_of l.declared) (second_trees (drop l.pair-index l.trees)) >>> (λ rest. Ok (l.sorts ++ rest)))
    ≡ sorts_of_trees (setting_of l.declared) (second_trees l.trees)
