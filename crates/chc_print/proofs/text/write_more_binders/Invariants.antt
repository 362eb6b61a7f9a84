use Rattle.std.proofs.Common.{◌≡◌, ◌≤◌, ◌+◌, ◌^◌, ◌++◌, length, drop}
use Rattle.chc_sexpr.specs.Writing.{spaced}
use Rattle.chc_print.specs.Texts.{binder_texts}
use Rattle.chc_print.proofs.text.write_more_binders.Given as goal

abbrev pub invariant-loop-sort : goal.invariant-loop-sort
invariant-loop-sort l =
    (l.i ≤ length l.out + 2 ^ 32) × (l.out ++ spaced (binder_texts l.names l.i (drop l.sort-index l.sorts)) ≡ l.initial.out ++ spaced (binder_texts l.names l.from l.sorts))
