use Rattle.std.proofs.Common.{◌≡◌, ◌≤◌, ℕ, List, length, map, ap, subst, sym, ◌∙◌}
use Rattle.std.specs.List.{list_all}
use Rattle.chc_sorts.specs.Listing.{is_narrow}
use Rattle.chc_sorts.specs.declared.data.Data.{Data}
use Rattle.chc_sorts.specs.declared.meaning.Meaning.{Meaning}
use Rattle.chc_sorts.specs.Signature.{AllInhabited}
use Rattle.chc_sorts.specs.Functions.{functions}
use Rattle.chc_sorts.specs.WellFounded.{are_fields_known}
use Rattle.chc_sorts.specs.Kept.{IsKept, most_datatypes}
use Rattle.chc_sorts.specs.Made.{CanBeMade}
use Rattle.chc_sorts.proofs.sig.Sig.copy.Goals as goal

kept_along : (datatypes copies : List Data) (groups sizes : List ℕ) (names more : List (List ℕ)) (rows others : List (List ℕ × Meaning)) → copies ≡ datatypes → sizes ≡ groups → more ≡ names → others ≡ rows
    → IsKept (record { datatypes = datatypes; groups = groups }) names rows → IsKept (record { datatypes = copies; groups = sizes }) more others
kept_along datatypes copies groups sizes names more rows others same sized named tabled k = record {
  made = subst CanBeMade (sym (λ i. record { datatypes = same i; groups = sized i })) k.made;
  inhabited = subst AllInhabited (sym same) k.inhabited;
  known = ap (λ (l : List Data). are_fields_known (record { datatypes = l; groups = sizes })) same ∙ k.known;
  few = subst (λ (l : List Data). length l ≤ most_datatypes) (sym same) k.few;
  narrow = ap (list_all is_narrow) same ∙ k.narrow;
  named = named ∙ k.named ∙ ap (λ (l : List Data). map (λ (t : Data). t.name) l) (sym same);
  tabled = tabled ∙ k.tabled ∙ ap (λ (l : List Data). functions (record { datatypes = l; groups = sizes })) (sym same);
}

pub invariant_of-result : goal.invariant_of-result
invariant_of-result c = kept_along _ _ _ _ _ _ _ _ c.in_ok-datatypes.ensures c.in_ok-groups.ensures c.in_ok-names.ensures c.in_ok-functions.ensures c.self.invariant
