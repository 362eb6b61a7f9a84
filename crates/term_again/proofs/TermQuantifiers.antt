-- What a quantifier that has a sort is over.
use Rattle.std.proofs.Common.{◌≡◌, refl, ap, Bool, true, false, cond, List, [], ◌∷◌, Option, Some, None}
use Rattle.chc_sorts.specs.declared.sort.Sort.{Sort}
use Rattle.chc_sorts.specs.declared.sort.Sort.TheVariants as sort
use Rattle.chc_sorts.specs.Signature.{Signature}
use Rattle.chc_sorts.specs.Sorts.{same_sort}
use Rattle.chc_sorts.proofs.SameSort.{same_from_test}
use Rattle.chc_terms.specs.Sorted.{are_declared, quantifier_sort, declared_quantifier_sort}
use Rattle.chc_terms.proofs.OperatorShapes.{when_some}

-- a quantifier of that sort is a condition over at least one variable, on a body that is a condition
pub record IsQuantifier (sorts : List Sort) (given : Option Sort) (s : Sort) : Type 0 where
  pub first : Sort
  pub others : List Sort
  pub some : sorts ≡ first ∷ others
  pub body : given ≡ Some sort.Bool
  pub whole : sort.Bool ≡ s

on_body : (sorts : List Sort) (given : Option Sort) (s : Sort) → quantifier_sort sorts given ≡ Some s → IsQuantifier sorts given s
on_body [] given s h = cc
on_body (x ∷ sorts) None s h = cc
on_body (x ∷ sorts) (Some body) s h =
    let passed = when_some (same_sort body sort.Bool) sort.Bool s h in
    record { first = x; others = sorts; some = refl; body = ap (λ (t : Sort). Some t) (same_from_test body sort.Bool passed.0); whole = passed.1 }

pub quantified_body : (sig : Signature) (sorts : List Sort) (given : Option Sort) (s : Sort) → declared_quantifier_sort sig sorts given ≡ Some s → IsQuantifier sorts given s
quantified_body sig sorts given s h = by (are_declared sig sorts) h
  where
    by : (b : Bool) → cond b (quantifier_sort sorts given) None ≡ Some s → IsQuantifier sorts given s
    by true h = on_body sorts given s h
    by false h = cc
