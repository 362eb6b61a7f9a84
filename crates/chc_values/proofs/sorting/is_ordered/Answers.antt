use Rattle.std.proofs.Common.{◌+◌, ◌<ℤ◌, length, get_or, refl, sym, ap, subst, arith}
use Rattle.std.proofs.lemmas.Bool.{false≢true}
use Rattle.chc_values.specs.Arrays.{IsOrdered}
use Rattle.chc_values.proofs.Exceptions.{Exceptions}
use Rattle.chc_values.proofs.SortTests.{refuted, ordered_by_steps, step_down_at}
use Rattle.chc_values.proofs.sorting.is_ordered.Goals as goal

pub returns : goal.returns
returns c = (
  λ t. ordered_by_steps c.args.exceptions.now
      (λ k d l. subst (λ (es : Exceptions). (get_or es k d).0 <ℤ (get_or es (k + 1) d).0) c.as_slice-entries.ensures (c.loop-i.invariant k d (omega (arith, ap length c.as_slice-entries.ensures)))),
  λ o. refl,
)

pub returns-then-not-is_below : goal.returns-then-not-is_below
returns-then-not-is_below c = refuted (λ o.
    step_down_at c.as_slice-entries.result.now c.loop-i.i c.index-entries-i.result c.index-entries-i-in-loop-i.result (omega arith) (omega arith) c.index-entries-i.is
    c.index-entries-i-in-loop-i.is (λ l. false≢true (c.if-not-is_below.ensures.1 l)) (subst IsOrdered (sym c.as_slice-entries.ensures) o))
