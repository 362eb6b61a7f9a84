use Rattle.std.proofs.Common.{◌≡◌, ◌++◌, drop, map}
use Rattle.chc_sexpr.specs.Writing.{spaced}
use Rattle.chc_print.specs.Texts.{sort_text}
use Rattle.chc_print.proofs.text.write_more_sorts.Given as goal

abbrev pub invariant-loop-sort : goal.invariant-loop-sort
invariant-loop-sort l =
    l.out ++ spaced (map (sort_text l.sig) (drop l.sort-index l.sorts)) ≡ l.initial.out ++ spaced (map (sort_text l.sig) l.sorts)
