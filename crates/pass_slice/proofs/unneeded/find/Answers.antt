use Rattle.std.proofs.Common.{List, Bool, sym, subst}
use Rattle.pass_slice.specs.Slices.{is_unneeded}
use Rattle.pass_slice.specs.Tables.{Bounds}
use Rattle.pass_slice.proofs.Bounding.{Bounds-live}
use Rattle.pass_slice.proofs.unneeded.find.Goals as goal

pub spread-requires : goal.spread-requires
spread-requires c =
    subst (λ (table : List Bool). Bounds is_unneeded c.args.s.now table) (sym c.in_ok-table.ensures) (Bounds-live is_unneeded c.args.s.now)
