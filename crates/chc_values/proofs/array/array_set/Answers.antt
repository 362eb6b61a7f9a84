use Rattle.std.proofs.Common.{refl, subst}
use Rattle.std.proofs.lemmas.Int.{to_z-of_z}
use Rattle.chc_values.specs.declared.value.Value.{Value}
use Rattle.chc_values.specs.declared.value.Value.TheVariants as value
use Rattle.chc_values.specs.Arrays.{Stores}
use Rattle.chc_values.proofs.ArrayLaws.{updated_of_sort}
use Rattle.chc_values.proofs.array.array_set.Goals as goal

pub returns-clause-stored : goal.returns-clause-stored
returns-clause-stored c =
    let fits = c.ranges.i in
    let stores = simp to_z-of_z at c.in_ok-stored-in-Array.ensures in (
      c.in-Array.default,
      c.in-Array.exceptions,
      c.in_ok-stored-in-Array.stored,
      c.in-Array.is,
      refl,
      subst (λ (d : Value). Stores d c.in-Array.exceptions c.args.i c.args.v c.in_ok-stored-in-Array.stored) c.get.ensures stores,
    )

pub returns-clause-sort : goal.returns-clause-sort
returns-clause-sort c = updated_of_sort c.args.a c.args.i c.args.v (value.Array c.in-Array.default c.in_ok-stored-in-Array.stored) (returns-clause-stored c)
