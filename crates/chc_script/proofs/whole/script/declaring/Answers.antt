use Rattle.std.proofs.Common.{sym, ap, ◌∙◌}
use Rattle.std.specs.Str.{bytes_eq}
use Rattle.chc_script.proofs.whole.script.declaring.Goals as goal

pub returns : goal.returns
returns c =
    let name = c.args.name.now in
    rw (
      ap (bytes_eq name) (sym c.as_slice.ensures) ∙ sym c.eq.ensures ∙ c.if-eq.false,
      ap (bytes_eq name) (sym c.as_slice-2.ensures) ∙ sym c.eq-2.ensures ∙ c.if-eq-2.false,
      ap (bytes_eq name) (sym c.as_slice-3.ensures) ∙ sym c.eq-3.ensures ∙ c.if-eq-3.false,
      ap (bytes_eq name) (sym c.as_slice-4.ensures) ∙ sym c.eq-4.ensures ∙ c.if-eq-4.false,
    )
    c.unknown.ensures
