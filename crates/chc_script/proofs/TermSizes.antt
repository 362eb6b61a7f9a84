-- Sizes of terms in a list.
use Rattle.std.proofs.Common.{◌≡◌, ℕ, zero, suc, ◌≤◌, List, [], ◌∷◌, Some, slice_get, ap, arith}
use Rattle.std.proofs.lemmas.Option.{none-some, same_Some}
use Rattle.chc_terms.specs.declared.term.Term.{Term}
use Rattle.chc_terms.specs.Counts.{size, size_all}
use Rattle.chc_terms.proofs.CountLaws.{size_all-cons}

pub size_at : (ts : List Term) (i : ℕ) (t : Term) → slice_get ts i ≡ Some t → size t ≤ size_all ts
size_at [] i t at = absurd (none-some t at)
size_at (u ∷ ts) zero t at =
    let same = ap size (same_Some u t at) in
    let sum = size_all-cons u ts in
    omega (arith, same, sum)
size_at (u ∷ ts) (suc i) t at =
    let rest = size_at ts i t at in
    let sum = size_all-cons u ts in
    omega (arith, rest, sum)
