-- The signature of the groups that a reach goes into has all the datatypes within the reach.
use Rattle.std.proofs.Common.{◌≡◌, ◌∙◌, sym, ap, refl, subst, ℕ, suc, ◌+◌, ◌≤◌, Bool, true, false, nat_lt, List, [], ◌∷◌, ◌++◌, length, map, take, drop, arith}
use Rattle.std.specs.Prelude.{if◌then◌else◌}
use Rattle.std.specs.List.{list_all}
use Rattle.std.proofs.lemmas.Bool.{and_parts, and_from}
use Rattle.std.proofs.lemmas.Bool.Decides.{nat_tests}
use Rattle.std.proofs.lemmas.List.{length-take-le, take-append-drop}
use Rattle.chc_sorts.specs.declared.data.Data.{Data}
use Rattle.chc_sorts.specs.declared.sort.Sort.{Sort}
use Rattle.chc_sorts.specs.Signature.{Signature}
use Rattle.chc_sorts.specs.Sorts.{sort_fits}
use Rattle.chc_terms.specs.Counts.{greatest}
use Rattle.chc_state.specs.declared.clause.PredDecl.{PredDecl}
use Rattle.chc_state.specs.Sorts.{positions, positions_fit}
use Rattle.chc_print.specs.Reach.{sort_reach, sorts_reach, decl_reach}
use Rattle.read_again.specs.FirstGroups.{total, before_group, groups_reached, reached_signature}
use Rattle.read_again.proofs.GroupsAdded.{total_within}
use Rattle.read_again.proofs.PredicatesRead.{is_fitting}
use Rattle.term_again.proofs.TermBounds.{fitting_bound}
use Rattle.term_again.proofs.TermReach.{sort_fits_front}

-- the groups cover all that is within the reach
covered : (reach from k : ℕ) (sizes : List ℕ) → k ≤ reach → k ≤ from + total sizes → k ≤ from + total (take (groups_reached reach from sizes) sizes)
covered reach from k [] within low = omega (arith, low)
covered reach from k (size ∷ sizes) within low = by (nat_lt from reach) refl (covered reach (from + size) k sizes within (omega (arith, low)))
  where
    more : (r : ℕ) → total (take (1 + r) (size ∷ sizes)) ≡ size + total (take r sizes)
    more r = ap (λ n. total (take n (size ∷ sizes))) (let e : 1 + r ≡ suc r = omega arith in e)

    beyond : nat_lt from reach ≡ false → reach ≤ from
    beyond e = grind (arith, nat_tests)

    by : (b : Bool) → nat_lt from reach ≡ b → k ≤ (from + size) + total (take (groups_reached reach (from + size) sizes) sizes)
        → k ≤ from + total (take (if nat_lt from reach then 1 + groups_reached reach (from + size) sizes else 0) (size ∷ sizes))
    by true e later = subst (λ b. k ≤ from + total (take (if b then 1 + groups_reached reach (from + size) sizes else 0) (size ∷ sizes))) (sym e) (omega (arith, later, more (groups_reached reach (from + size) sizes)))
    by false e later = subst (λ b. k ≤ from + total (take (if b then 1 + groups_reached reach (from + size) sizes else 0) (size ∷ sizes))) (sym e) (omega (arith, within, beyond e))

module _ (sig : Signature) (whole : total sig.groups ≡ length sig.datatypes) (reach : ℕ) where
  abbrev reached : Signature
  reached = reached_signature sig reach

  abbrev last : ℕ
  last = before_group sig (groups_reached reach 0 sig.groups)

  reached_count : length reached.datatypes ≡ total (take (groups_reached reach 0 sig.groups) sig.groups)
  reached_count = length-take-le last sig.datatypes (omega (arith, whole, total_within sig.groups (groups_reached reach 0 sig.groups)))

  -- the datatypes of all groups are these and those behind them
  abbrev pub behind : List Data
  behind = drop last sig.datatypes

  pub reached_front : sig.datatypes ≡ reached.datatypes ++ behind
  reached_front = sym (take-append-drop last sig.datatypes)

  -- a datatype of the signature that is within the reach is one of these
  pub within_reach : (k : ℕ) → k ≤ reach → k ≤ length sig.datatypes → k ≤ length reached.datatypes
  within_reach k low high = let cover = covered reach 0 k sig.groups low (omega (arith, high, whole)) in omega (arith, cover, reached_count)

  -- sorts that fit and that the reach goes as far as fit these
  fits_reached : (s : Sort) → sort_fits sig s ≡ true → sort_reach s ≤ reach → sort_fits reached s ≡ true
  fits_reached s fits low = sort_fits_front sig reached behind reached_front s (within_reach (sort_reach s) low (fitting_bound sig s fits)) fits

  pub sorts_fit_reached : (ss : List Sort) → list_all (sort_fits sig) ss ≡ true → sorts_reach ss ≤ reach → list_all (sort_fits reached) ss ≡ true
  sorts_fit_reached [] fits low = refl
  sorts_fit_reached (s ∷ ss) fits low =
      let parts = and_parts (sort_fits sig s) (list_all (sort_fits sig) ss) fits in
      and_from (sort_fits reached s) (list_all (sort_fits reached) ss) (fits_reached s parts.0 (omega (arith, low))) (sorts_fit_reached ss parts.1 (omega (arith, low)))

  -- the positions of live predicates fit
  pub positions_fit_reached : (ds : List PredDecl) → positions_fit sig ds ≡ true → greatest (map decl_reach ds) ≤ reach → list_all (is_fitting reached) ds ≡ true
  positions_fit_reached [] fits low = refl
  positions_fit_reached (d ∷ ds) fits low =
      let parts = and_parts (list_all (sort_fits sig) d.sorts) (list_all (list_all (sort_fits sig)) (positions ds)) fits in
      and_from (is_fitting reached d) (list_all (is_fitting reached) ds) (by d.live refl parts.0) (positions_fit_reached ds parts.1 (omega (arith, low)))
    where
      one : d.live ≡ true → sorts_reach d.sorts ≤ reach
      one live = let e : decl_reach d ≡ sorts_reach d.sorts = ap (λ b. if b then sorts_reach d.sorts else 0) live in omega (arith, low, e)

      by : (b : Bool) → d.live ≡ b → list_all (sort_fits sig) d.sorts ≡ true → (if d.live then list_all (sort_fits reached) d.sorts else true) ≡ true
      by true e fits = ap (λ b. if b then list_all (sort_fits reached) d.sorts else true) e ∙ sorts_fit_reached d.sorts fits (one e)
      by false e fits = ap (λ b. if b then list_all (sort_fits reached) d.sorts else true) e
