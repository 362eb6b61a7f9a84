-- Tests of sorts, by the variant of the first one.
use Rattle.std.proofs.Common.{◌≡◌, ◌&&◌, [], ◌∷◌, ℕ, Bool, true, false, List, length, Some, None, refl, ap, sym, ◌∙◌}
use Rattle.std.specs.Prelude.{nat_lt}
use Rattle.std.specs.List.{list_all}
use Rattle.chc_sorts.specs.declared.sort.Sort.{Sort, Sort-F, fold-roll-Sort}
use Rattle.chc_sorts.specs.declared.sort.Sort.TheVariants as sort
use Rattle.chc_sorts.specs.Signature.{Signature}
use Rattle.chc_sorts.specs.Sorts.{same_sorts, is_declared_step, sort_depth, sort_fits}
use Rattle.chc_terms.specs.Sorted.{is_declared, are_declared, element_of, element_at}
use Rattle.chc_terms.proofs.SameSort.{both_true, same_sort-Bool, same_sort-Int, same_sort-Data, same_sort-Array, same_sorts_from_test}

-- the equations of same_sort
pub ruleset levels = (same_sort-Bool, same_sort-Int, same_sort-Data, same_sort-Array)

module _ (sig : Signature) where
  pub is_declared-Bool : is_declared sig sort.Bool ≡ true
  is_declared-Bool = ap (is_declared sig) (sym sort.rolls-Bool) ∙ fold-roll-Sort Bool (is_declared_step sig) Sort-F.Bool

  pub is_declared-Int : is_declared sig sort.Int ≡ true
  is_declared-Int = ap (is_declared sig) (sym sort.rolls-Int) ∙ fold-roll-Sort Bool (is_declared_step sig) Sort-F.Int

  pub is_declared-Data : (d : ℕ) → is_declared sig (sort.Data d) ≡ nat_lt d (length sig.datatypes)
  is_declared-Data d = ap (is_declared sig) (sym (sort.rolls-Data d)) ∙ fold-roll-Sort Bool (is_declared_step sig) (Sort-F.Data d)

  pub is_declared-Array : (s : Sort) → is_declared sig (sort.Array s) ≡ is_declared sig s
  is_declared-Array s = ap (is_declared sig) (sym (sort.rolls-Array s)) ∙ fold-roll-Sort Bool (is_declared_step sig) (Sort-F.Array s)

  -- sorts that fit are declared
  pub fits_declared : (sorts : List Sort) → list_all (sort_fits sig) sorts ≡ true → are_declared sig sorts ≡ true
  fits_declared [] h = refl
  fits_declared (s ∷ sorts) h =
      let both = both_true (sort_fits sig s) (list_all (sort_fits sig) sorts) h in
      let one = both_true (is_declared sig s) (nat_lt (sort_depth s) 17) both.0 in
      ap (λ b. b && are_declared sig sorts) one.0 ∙ fits_declared sorts both.1

-- the equations of is_declared
pub ruleset declares = (is_declared-Bool, is_declared-Int, is_declared-Data, is_declared-Array)

pub element_of-Bool : element_of sort.Bool ≡ None
element_of-Bool = ap element_at sort.outs-Bool

pub element_of-Int : element_of sort.Int ≡ None
element_of-Int = ap element_at sort.outs-Int

pub element_of-Data : (d : ℕ) → element_of (sort.Data d) ≡ None
element_of-Data d = ap element_at (sort.outs-Data d)

pub element_of-Array : (s : Sort) → element_of (sort.Array s) ≡ Some s
element_of-Array s = ap element_at (sort.outs-Array s)

-- the equations of element_of
pub ruleset elements = (element_of-Bool, element_of-Int, element_of-Data, element_of-Array)

differ : (b : Bool) (left right : List Sort) → (b ≡ true → left ≡ right) → (length left ≡ length right → ⊥) → false ≡ b
differ true left right same ne = absurd (ne (ap length (same refl)))
differ false left right same ne = refl

-- lists of other lengths have other sorts
pub other_lengths : (left right : List Sort) → (length left ≡ length right → ⊥) → false ≡ same_sorts left right
other_lengths left right ne = differ (same_sorts left right) left right (same_sorts_from_test left right) ne
