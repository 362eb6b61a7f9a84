use Rattle.std.proofs.Common.{rules, ◌≡◌, ◌<◌, Bool, List, ℕ, false, length, subst}
use Rattle.std.specs.Prelude.{MatchOption}
use Rattle.chc_sorts.specs.Marks.{AllMarked, is_marked}
use Rattle.chc_sorts.proofs.MarkLaws.{first_empty_told}
use Rattle.chc_sorts.proofs.marks.first_empty.Goals as goal

pub returns : goal.returns
returns c =
    let made = c.in_ok-marks.ensures in
    let same : c.as_slice.result.now ≡ c.in_ok-marks.marks.items = search rules in
    first_empty_told c.args.datatypes.now c.in_ok-marks.marks.items made.0 made.1 made.2 c.first_unmarked.result
    (subst (λ (m : List Bool). MatchOption c.first_unmarked.result (AllMarked m (length m)) (λ (d : ℕ). (d < length m) × (is_marked m d ≡ false) × AllMarked m d)) same c.first_unmarked.ensures)
