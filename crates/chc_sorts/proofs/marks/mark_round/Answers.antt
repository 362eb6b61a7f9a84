use Rattle.std.proofs.Common.{rules, ◌+◌, ◌||◌, refl, arith, sym, length, Bool, List, subst}
use Rattle.std.proofs.lemmas.Option.{slice_get_read}
use Rattle.chc_sorts.proofs.MarkLaws.{RoundKept, round_step}
use Rattle.chc_sorts.proofs.marks.mark_round.Goals as goal

pub loop-d-init : goal.loop-d-init
loop-d-init c = record { along = c.requires; holds = λ h. h; same = λ e. refl; seen = λ e d below. absurd (omega arith); least = omega arith; fewer = λ e. absurd (search rules) }

pub loop-d-preserved : goal.loop-d-preserved
loop-d-preserved c =
    let ds = c.args.datatypes.now in
    let at = slice_get_read ds (length ds) c.loop-d.d c.index-datatypes-d.result refl c.loop-d-test.true c.index-datatypes-d.is in
    let after = round_step ds c.args.marks.now c.loop-d.marks c.loop-d.d c.loop-d.grown c.index-datatypes-d.result at c.loop-d.invariant c.mark-grown.result c.mark-grown.ensures.new in
    subst (λ (m : List Bool). RoundKept ds c.args.marks.now m (c.loop-d.d + 1) (c.loop-d.grown || c.mark-grown.result)) (sym c.mark-grown.ensures.marked) after
