use Rattle.std.proofs.Common.{◌≡◌, ◌++◌, Bool, List, take, drop, arith, sym, length, subst}
use Rattle.std.proofs.Math.Logic.{∥∥₁_map}
use Rattle.std.proofs.lemmas.List.{take_at}
use Rattle.chc_sorts.specs.Marks.{AreTrue, AreClosed}
use Rattle.chc_sorts.proofs.MarkLaws.{known_true}
use Rattle.chc_sorts.proofs.marks.marks_of.Goals as goal

pub returns : goal.returns
returns c =
    let ds = c.args.datatypes.now in
    let new = c.mark_all.new.marks in
    let first = c.in_ok-marks.ensures in
    let old = known_true ds c.args.known c.in_ok-marks.marks.items c.requires.within first.1 c.requires.inhabited in
    let after = ∥∥₁_map old (λ (h : AreTrue ds c.in_ok-marks.marks.items). c.mark_all.ensures.same (subst (AreTrue ds) (sym c.as_mut_slice.ensures.value) h)) in
    let whole : take c.in_ok-marks.marks.len (new ++ drop (length new) c.in_ok-marks.marks.items) ≡ new = take_at new (drop (length new) c.in_ok-marks.marks.items) c.in_ok-marks.marks.len (omega arith) in
    let along : length new ≡ length ds = omega (arith, first.0) in
    subst (λ (m : List Bool). (length m ≡ length ds) × ∥ AreTrue ds m ∥₁ × AreClosed ds m) (sym whole) (along, after, c.mark_all.ensures.closed)
