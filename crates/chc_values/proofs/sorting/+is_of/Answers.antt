use Rattle.std.proofs.Common.{false, length, map, refl, sym, ap, ◌∙◌, subst, arith}
use Rattle.std.proofs.lemmas.Bool.{false≢true}
use Rattle.std.proofs.lemmas.List.{length-map}
use Rattle.chc_sorts.specs.declared.data.Field.{Field}
use Rattle.chc_values.specs.declared.value.Value.{Value}
use Rattle.chc_values.specs.Values.{IsCanonical, IsOf}
use Rattle.chc_values.proofs.SortTests.{refuted, bool_test, int_test, data_test, other_data, no_array, array_test, AreOf-length}
use Rattle.chc_values.proofs.sorting.+is_of.Goals as goal

pub are_fields-returns-in-None : goal.are_fields-returns-in-None
are_fields-returns-in-None t c = refuted (λ k. c.in-None.ensures k.0 k.1)

pub are_of-returns-then-len-fields : goal.are_of-returns-then-len-fields
are_of-returns-then-len-fields t c = refuted (λ h.
    let same = AreOf-length c.args.sig.now c.args.values.now (map (λ (f : Field). f.sort) c.args.fields.now) h in
    omega (arith, length-map c.args.fields.now (λ (f : Field). f.sort), ap length c.as_slice-fields.ensures))

pub is_of-returns-in-Bool : goal.is_of-returns-in-Bool
is_of-returns-in-Bool t c = bool_test c.args.sig.now c.args.v.now c.args.sort.now c.is_bool.result c.in-Bool.field-0 c.in-Bool.is c.is_bool.ensures

pub is_of-returns-in-Int : goal.is_of-returns-in-Int
is_of-returns-in-Int t c = int_test c.args.sig.now c.args.v.now c.args.sort.now c.is_int.result c.in-Int.field-0 c.in-Int.is c.is_int.ensures

pub is_of-returns-then-is_datatype : goal.is_of-returns-then-is_datatype
is_of-returns-then-is_datatype t c =
    data_test c.args.sig.now c.args.v.now c.args.sort.now c.in-Data.d c.in-Data.c c.in-Data.fields c.in-Data.is c.are_fields.result (c.if-is_datatype.ensures.0 refl) c.are_fields.ensures

pub is_of-returns-else-is_datatype : goal.is_of-returns-else-is_datatype
is_of-returns-else-is_datatype t c =
    other_data c.args.sig.now c.args.v.now c.args.sort.now c.in-Data.d c.in-Data.c c.in-Data.fields c.in-Data.is c.is_datatype.result c.if-is_datatype.false c.is_datatype.ensures

pub is_of-returns-in-None : goal.is_of-returns-in-None
is_of-returns-in-None t c = no_array c.args.sig.now c.args.v.now c.args.sort.now c.in-Array.default c.in-Array.exceptions c.in-Array.is (λ s. c.in-None.ensures s)

pub is_of-returns-then-not-is_canonical : goal.is_of-returns-then-not-is_canonical
is_of-returns-then-not-is_canonical t c =
    array_test c.args.sig.now c.args.v.now c.args.sort.now c.in-Array.default c.in-Array.exceptions c.in-Array.is c.in-Some.element.now false c.in-Some.ensures
    (refuted (λ h. false≢true (c.if-not-is_canonical.ensures.1 (subst (λ (d : Value). IsCanonical d c.in-Array.exceptions) (sym c.get.ensures) h.canonical))))

pub is_of-returns-then-is_of : goal.is_of-returns-then-is_of
is_of-returns-then-is_of t c =
    array_test c.args.sig.now c.args.v.now c.args.sort.now c.in-Array.default c.in-Array.exceptions c.in-Array.is c.in-Some.element.now c.are_entries_of.result c.in-Some.ensures (
      λ r. record {
        default_of = subst (λ (d : Value). IsOf c.args.sig.now d c.in-Some.element.now) c.get-in-Some.ensures (c.if-is_of.ensures.0 refl);
        each_of = c.are_entries_of.ensures.0 r;
        canonical = subst (λ (d : Value). IsCanonical d c.in-Array.exceptions) c.get.ensures (c.if-not-is_canonical.ensures.0 refl);
      },
      λ h. c.are_entries_of.ensures.1 h.each_of,
    )

pub is_of-returns-else-is_of : goal.is_of-returns-else-is_of
is_of-returns-else-is_of t c =
    array_test c.args.sig.now c.args.v.now c.args.sort.now c.in-Array.default c.in-Array.exceptions c.in-Array.is c.in-Some.element.now c.is_of.result c.in-Some.ensures (
      λ r. absurd (false≢true (sym c.if-is_of.false ∙ r)),
      λ h. c.is_of.ensures.1 (subst (λ (d : Value). IsOf c.args.sig.now d c.in-Some.element.now) (sym c.get-in-Some.ensures) h.default_of),
    )
