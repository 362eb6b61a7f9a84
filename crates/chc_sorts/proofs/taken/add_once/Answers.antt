use Rattle.std.proofs.Common.{sym, ap, ◌∙◌}
use Rattle.chc_sorts.specs.Names.{has_name}
use Rattle.chc_sorts.proofs.TakenLaws.{same_with}
use Rattle.chc_sorts.proofs.taken.add_once.Goals as goal

pub returns-then-has : goal.returns-then-has
returns-then-has c = same_with c.args.table.now c.args.name.now (ap (has_name c.args.table.now) (sym c.as_slice.ensures) ∙ sym c.has.ensures ∙ c.if-has.true)
