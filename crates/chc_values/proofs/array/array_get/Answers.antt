use Rattle.std.proofs.Common.{◌≡◌, sym, subst}
use Rattle.std.proofs.lemmas.Int.{to_z-of_z}
use Rattle.std.proofs.lemmas.Result.{IfOk-weaker}
use Rattle.chc_values.specs.declared.value.Value.{Value}
use Rattle.chc_values.specs.Arrays.{HasAt, Selects}
use Rattle.chc_values.proofs.ArrayLaws.{selected_of_sort}
use Rattle.chc_values.proofs.array.array_get.Goals as goal

pub returns-clause-element : goal.returns-clause-element
returns-clause-element c =
    let fits = c.ranges.i in
    let found = simp to_z-of_z at c.element_at.ensures in
    let has : HasAt c.in-Array.default c.in-Array.exceptions c.args.i c.element_at.result.now =
    subst (λ (d : Value). HasAt d c.in-Array.exceptions c.args.i c.element_at.result.now) c.get.ensures found in
    IfOk-weaker c.copy.result (λ v. v ≡ c.element_at.result.now) _
    (λ v e. (c.in-Array.default, c.in-Array.exceptions, c.in-Array.is, subst (HasAt c.in-Array.default c.in-Array.exceptions c.args.i) (sym e) has)) c.copy.ensures

pub returns-clause-sort : goal.returns-clause-sort
returns-clause-sort c = IfOk-weaker c.copy.result (λ v. Selects c.args.a.now c.args.i v) _ (λ v s. selected_of_sort c.args.a.now c.args.i v s) (returns-clause-element c)
