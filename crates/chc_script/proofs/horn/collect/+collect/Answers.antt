use Rattle.std.proofs.Common.{rules, ◌≡◌, ap, ◌∙◌, arith, refl, Some, slice_get, length, ◌<◌, ◌+◌}
use Rattle.std.proofs.lemmas.Option.{slice_get_read}
use Rattle.chc_terms.specs.Counts.{size, size_all}
use Rattle.chc_terms.proofs.CountLaws.{size-App}
use Rattle.chc_script.specs.Marks.{marked, mark_at}
use Rattle.chc_script.proofs.MarkLaws.{marked-App, part-marked}
use Rattle.chc_script.proofs.TermSizes.{size_at}
use Rattle.chc_script.proofs.horn.collect.+collect.Goals as goal

pub collect-collect_each-requires : goal.collect-collect_each-requires
collect-collect_each-requires t c =
    let counted : size c.args.term.now ≡ size_all c.in-App.args + 1 = ap size c.in-App.is ∙ size-App c.in-App.op c.in-App.args in
    (omega (arith, counted), c.requires ∙ ap marked c.in-App.is ∙ marked-App c.in-App.op c.in-App.args)

pub collect_each-collect-requires : goal.collect_each-collect-requires
collect_each-collect-requires t c =
    let terms = c.args.terms.now in
    let i = c.loop-i.i in
    let item = c.term-item.result in
    let within : i < length terms = omega (arith, ap length c.as_slice-term-items.ensures) in
    let at : slice_get terms i ≡ Some item = slice_get_read terms (length terms) i item refl within (search rules) in
    let small = size_at terms i item at in
    (omega (arith, small), c.part.ensures ∙ ap (λ m. mark_at m i) c.requires ∙ part-marked terms i item at)
