use Rattle.std.proofs.Common.{sym, ap, ◌∙◌}
use Rattle.std.specs.Prelude.{is_some}
use Rattle.std.specs.Str.{bytes_eq}
use Rattle.chc_sorts.specs.Names.{number_of}
use Rattle.chc_sorts.proofs.Knowing.{known_by_number}
use Rattle.chc_sorts.proofs.named.is_known.Goals as goal

pub returns : goal.returns
returns c =
    let name = c.args.name.now in
    let bool = ap (bytes_eq name) (sym c.as_slice.ensures) ∙ sym c.eq.ensures ∙ c.if-eq.false in
    let int = ap (bytes_eq name) (sym c.as_slice-2.ensures) ∙ sym c.eq-2.ensures ∙ c.if-eq-2.false in
    c.is_some.ensures ∙ ap is_some c.number_of.ensures.value ∙ known_by_number (number_of c.args.names.now name) _ _ bool int
