use Rattle.std.proofs.Common.{◌≡◌, ◌≤◌, ◌+◌, ◌*◌, drop}
use Rattle.chc_sexpr.specs.Counts.{count, count_all}
use Rattle.chc_elab.specs.Limits.{most_nodes}
use Rattle.chc_elab.specs.Reads.{arguments, beside, seconds_read}
use Rattle.chc_elab.specs.Settings.{setting_of, site_at}
use Rattle.chc_elab.proofs.ReadSoFar.{args_and_more, values_and_more}
use Rattle.chc_elab.proofs.reading.+term.Given as goal

abbrev pub invariant-read_arguments-loop-i : goal.invariant-read_arguments-loop-i
invariant-read_arguments-loop-i l = record {
  kept : l.frames ≡ l.fn.frames;
  few : l.nodes ≤ most_nodes;
  same : args_and_more (setting_of l.declared) l.place (site_at l.fn.frames l.variables) l.nodes l.args (drop l.i l.trees)
      ≡ arguments l.place (site_at l.fn.frames l.variables) 1 (beside (setting_of l.declared) (drop 1 l.trees));
}

abbrev pub invariant-read_seconds-loop-pair : goal.invariant-read_seconds-loop-pair
invariant-read_seconds-loop-pair l = record {
  kept : l.frames ≡ l.fn.frames;
  same : values_and_more (setting_of l.declared) (site_at l.fn.frames l.variables) l.values (drop l.pair-index l.trees)
      ≡ seconds_read (beside (setting_of l.declared) l.trees) (site_at l.fn.frames l.variables);
}

abbrev pub decreases-read_term : goal.decreases-read_term
decreases-read_term l = 4 * count l.tree.now

abbrev pub decreases-read_form : goal.decreases-read_form
decreases-read_form l = 4 * count_all l.trees.now + 3

abbrev pub decreases-read_application : goal.decreases-read_application
decreases-read_application l = 4 * count_all l.trees.now + 2

abbrev pub decreases-read_arguments : goal.decreases-read_arguments
decreases-read_arguments l = 4 * count_all l.trees.now + 1

abbrev pub decreases-read_let : goal.decreases-read_let
decreases-read_let l = 4 * count_all l.trees.now + 2

abbrev pub decreases-read_quantifier : goal.decreases-read_quantifier
decreases-read_quantifier l = 4 * count_all l.trees.now + 2

abbrev pub decreases-read_seconds : goal.decreases-read_seconds
decreases-read_seconds l = 4 * count l.pairs.now

abbrev pub decreases-read_second : goal.decreases-read_second
decreases-read_second l = 4 * count l.pair.now
