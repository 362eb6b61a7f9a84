use Rattle.std.proofs.Common.{sym, ap, ◌∙◌}
use Rattle.std.specs.Prelude.{is_some}
use Rattle.std.specs.Str.{bytes_eq}
use Rattle.chc_script.proofs.TakenNames.{fixed_is_true, fixed_is_false, fixed_is_operator}
use Rattle.chc_script.proofs.whole.taken.is_fixed.Goals as goal

pub returns-then-eq : goal.returns-then-eq
returns-then-eq c =
    let name = c.args.name.now in
    fixed_is_true name (ap (bytes_eq name) (sym c.as_slice.ensures) ∙ sym c.eq.ensures ∙ c.if-eq.true)

pub returns-then-eq-2 : goal.returns-then-eq-2
returns-then-eq-2 c =
    let name = c.args.name.now in
    fixed_is_false name (ap (bytes_eq name) (sym c.as_slice.ensures) ∙ sym c.eq.ensures ∙ c.if-eq.false) (ap (bytes_eq name) (sym c.as_slice-2.ensures) ∙ sym c.eq-2.ensures ∙ c.if-eq-2.true)

pub returns : goal.returns
returns c =
    let name = c.args.name.now in
    c.is_some.ensures ∙ ap is_some c.op_by_name.ensures ∙ fixed_is_operator name (ap (bytes_eq name) (sym c.as_slice.ensures) ∙ sym c.eq.ensures ∙ c.if-eq.false) (ap (bytes_eq name) (sym c.as_slice-2.ensures) ∙ sym c.eq-2.ensures ∙ c.if-eq-2.false)
