use Rattle.std.proofs.Common.{◌≡◌, sym, subst, refl, ℕ, List, [], Some, slice_get, arith}
use Rattle.std.proofs.lemmas.Option.{none-some}
use Rattle.chc_sorts.specs.declared.data.Data.{Data}
use Rattle.chc_sorts.specs.declared.meaning.Meaning.{Meaning}
use Rattle.chc_sorts.specs.Signature.{IsInhabited}
use Rattle.chc_sorts.specs.declared.sort.Sort.TheVariants as sort
use Rattle.chc_sorts.specs.Kept.{IsKept}
use Rattle.chc_sorts.specs.Made.{IsMade}
use Rattle.chc_sorts.proofs.sig.Sig.new.Goals as goal

none_there : (d : ℕ) (t : Data) → slice_get [] d ≡ Some t → IsInhabited [] (sort.Data d)
none_there d t e = absurd (none-some t e)

nothing_kept : IsKept (record { datatypes = []; groups = [] }) [] []
nothing_kept = record {
  made = ∣ IsMade.empty ∣₁;
  inhabited = ∣ none_there ∣₁;
  known = refl;
  few = omega arith;
  narrow = refl;
  named = refl;
  tabled = refl;
}

kept_where : (ds : List Data) (gs : List ℕ) (names : List (List ℕ)) (rows : List (List ℕ × Meaning)) → ds ≡ [] → gs ≡ [] → names ≡ [] → rows ≡ [] → IsKept (record { datatypes = ds; groups = gs }) names rows
kept_where ds gs names rows d g n r =
    subst (λ (l : List Data). IsKept (record { datatypes = l; groups = gs }) names rows) (sym d)
    (subst (λ (l : List ℕ). IsKept (record { datatypes = []; groups = l }) names rows) (sym g)
    (subst (λ (l : List (List ℕ)). IsKept (record { datatypes = []; groups = [] }) l rows) (sym n)
    (subst (λ (l : List (List ℕ × Meaning)). IsKept (record { datatypes = []; groups = [] }) [] l) (sym r) nothing_kept)))

pub invariant_of-result : goal.invariant_of-result
invariant_of-result c = kept_where c.new.result c.new-2.result c.new-3.result c.new-4.result c.new.ensures c.new-2.ensures c.new-3.ensures c.new-4.ensures
