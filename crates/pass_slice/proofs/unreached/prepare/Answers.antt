use Rattle.std.proofs.Common.{List, Bool, ℕ, map, ap, ◌∙◌}
use Rattle.chc_state.specs.Refuting.{numbers_where}
use Rattle.pass_slice.specs.Slices.{Slice, body_meets}
use Rattle.pass_slice.specs.Tables.{marked}
use Rattle.pass_slice.specs.Undos.{removed_from}
use Rattle.pass_slice.proofs.Undoing.{undone}
use Rattle.pass_slice.proofs.unreached.prepare.Goals as goal

pub returns-clause-stands : goal.returns-clause-stands
returns-clause-stands c =
    undone Slice.forward c.args.s.now c.args.ps.now c.in_ok-table.table.items (record { removed = c.in_ok-removed.removed; clauses = c.in_ok-clauses.clauses }) c.kept.ensures c.requires
    c.in_ok-table.ensures
    (c.in_ok-removed.ensures ∙ ap (λ (ps : List ℕ). map (removed_from c.args.s.now) ps) c.as_slice.ensures)
    (c.in_ok-clauses.ensures ∙ ap (λ (table : List Bool). numbers_where (body_meets (marked table)) 0 c.args.s.now.clauses) c.deref.ensures.value)
