use Rattle.std.proofs.Common.{◌≡◌, max, drop, map}
use Rattle.chc_terms.specs.Counts.{greatest}
use Rattle.chc_print.specs.Reach.{decl_reach}
use Rattle.chc_print.proofs.reach.decls_reach.Given as goal

abbrev pub invariant-loop-declared : goal.invariant-loop-declared
invariant-loop-declared l = max l.most (greatest (map decl_reach (drop l.declared-index l.preds))) ≡ greatest (map decl_reach l.preds)
