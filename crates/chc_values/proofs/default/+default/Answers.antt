use Rattle.std.proofs.Common.{[], subst, sym, arith}
use Rattle.chc_values.specs.declared.default.Base.{Base}
use Rattle.chc_values.specs.Values.{HasFields}
use Rattle.chc_values.specs.Defaults.{AreDefaults, bool, int, none}
use Rattle.chc_values.proofs.Building.{sorts_in, default_made, told_base, field_told, next_default, datatype_made}
use Rattle.chc_values.proofs.default.+default.Goals as goal

pub datatype_default-fields_of-requires : goal.datatype_default-fields_of-requires
datatype_default-fields_of-requires t c =
    let k = c.requires.right c.args.d c.choice_of-choice.result c.choice_of-choice.ensures.there in (k.sorts, k.first.fields)

pub datatype_default-loop-field-init : goal.datatype_default-loop-field-init
datatype_default-loop-field-init t c = subst (AreDefaults c.args.sig.now []) (sym c.new-values.ensures) none

pub datatype_default-sort_default-requires : goal.datatype_default-sort_default-requires
datatype_default-sort_default-requires t c =
    let k = c.requires.right c.args.d c.choice_of-choice.result c.choice_of-choice.ensures.there in
    let h = subst (λ fs. HasFields c.args.sig.now c.args.d c.choice_of-choice.result.ctor (sorts_in fs)) (sym c.as_slice-field-items.ensures) c.fields_of.ensures in
    let below = c.choice_of-choice.ensures.below in
    let falls = c.decreases in (
      omega arith,
      (
        c.requires.right,
        field_told c.args.sig.now c.args.choices.now c.args.d c.choice_of-choice.result c.as_slice-field-items.result.now c.loop-field.field-index c.field-item.result k h c.loop-field-test.true c.field-item.is,
      ),
    )

pub datatype_default-loop-field-preserved : goal.datatype_default-loop-field-preserved
datatype_default-loop-field-preserved t c =
    next_default c.args.sig.now c.as_slice-field-items.result.now c.loop-field.field-index c.field-item.result c.loop-field.values c.push.new.self c.in_ok-sort_default.field-0
    c.loop-field-test.true c.field-item.is c.loop-field.invariant c.in_ok-sort_default.ensures c.in_ok-push.ensures.added

pub datatype_default-returns : goal.datatype_default-returns
datatype_default-returns t c =
    let k = c.requires.right c.args.d c.choice_of-choice.result c.choice_of-choice.ensures.there in
    let h = subst (λ fs. HasFields c.args.sig.now c.args.d c.choice_of-choice.result.ctor (sorts_in fs)) (sym c.as_slice-field-items.ensures) c.fields_of.ensures in
    datatype_made c.args.sig.now c.args.choices.now c.args.d c.choice_of-choice.result c.as_slice-field-items.result.now c.loop-field.field-index c.loop-field.values k h c.loop-field-test.false c.loop-field.invariant

pub sort_default-datatype_default-requires : goal.sort_default-datatype_default-requires
sort_default-datatype_default-requires t c =
    let falls = c.decreases in
    (omega arith, (c.requires.right, told_base c.args.choices.now c.args.height c.args.sort.now c.in-Data.d c.in-Data.ensures c.requires.within))

pub sort_default-returns-in-Bool : goal.sort_default-returns-in-Bool
sort_default-returns-in-Bool t c = default_made c.args.sig.now c.args.sort.now Base.Bool _ c.in_arrays.result c.in_arrays.ensures c.in-Bool.ensures bool

pub sort_default-returns-in-Int : goal.sort_default-returns-in-Int
sort_default-returns-in-Int t c = default_made c.args.sig.now c.args.sort.now Base.Int _ c.in_arrays-in-Int.result c.in_arrays-in-Int.ensures c.in-Int.ensures int

pub sort_default-returns-in_ok-datatype_default-in-Data : goal.sort_default-returns-in_ok-datatype_default-in-Data
sort_default-returns-in_ok-datatype_default-in-Data t c =
    default_made c.args.sig.now c.args.sort.now (Base.Data c.in-Data.d) c.in_ok-datatype_default-in-Data.field-0 c.in_arrays-in-Data.result c.in_arrays-in-Data.ensures c.in-Data.ensures c.in_ok-datatype_default-in-Data.ensures
