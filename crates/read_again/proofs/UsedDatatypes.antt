-- The groups that a text declares hold the used datatypes, and the last of them has one.
use Rattle.std.proofs.Common.{◌≡◌, ◌∙◌, inl, inr, sym, ap, refl, ℕ, zero, suc, ◌+◌, ◌≤◌, ◌<◌, Bool, true, false, ◌&&◌, nat_lt, List, [], ◌∷◌, length, take, Option, Some, None, slice_get, arith}
use Rattle.std.specs.Prelude.{if◌then◌else◌}
use Rattle.std.specs.List.{list_all}
use Rattle.std.proofs.lemmas.Bool.{and_parts, false≢true}
use Rattle.std.proofs.lemmas.Bool.Decides.{nat_tests}
use Rattle.chc_sorts.specs.declared.sort.Sort.{Sort}
use Rattle.chc_sorts.specs.declared.sort.Sort.TheVariants as sort
use Rattle.chc_sorts.specs.declared.data.Data.{Data}
use Rattle.chc_sorts.specs.declared.data.Ctor.{Ctor}
use Rattle.chc_sorts.specs.declared.data.Field.{Field}
use Rattle.chc_sorts.specs.Signature.{Signature}
use Rattle.chc_sorts.specs.Sorts.{sort_fits}
use Rattle.chc_sorts.specs.WellFounded.{is_field_known, is_ctor_known, is_data_known}
use Rattle.chc_sorts.specs.Made.{CanBeMade}
use Rattle.chc_terms.specs.declared.term.Term.{Term}
use Rattle.chc_terms.specs.Numbers.{numbers_fit}
use Rattle.chc_terms.specs.Sorted.{sort_of, sorts_of, sorts_fit, is_plain}
use Rattle.chc_state.specs.declared.clause.Atom.{Atom}
use Rattle.chc_state.specs.declared.clause.Clause.{Clause}
use Rattle.chc_state.specs.declared.clause.PredDecl.{PredDecl}
use Rattle.chc_state.specs.Meaning.{In}
use Rattle.chc_state.specs.States.{StateView, head_all}
use Rattle.chc_state.specs.Sorts.{clause_context, is_sort, is_condition, is_sorted_atom, is_sorted_clause, positions, positions_fit}
use Rattle.chc_state.specs.WellFormed.{is_part, term_fits, atom_fits, clause_fits, is_well_formed, are_well_formed}
use Rattle.chc_state.proofs.Members.{all-at}
use Rattle.chc_state.proofs.Valued.{SortedArgs-atom}
use Rattle.chc_print.specs.Reach.{sort_reach, sorts_reach, term_reach, terms_reach, atom_reach, head_reach, clause_reach, decl_reach, state_reach}
use Rattle.read_again.specs.FirstGroups.{total, before_group, groups_reached, reached_signature}
use Rattle.read_again.specs.UsedDatatypes.{sort_datatypes, IsUsed, UsedAreDeclared, LastDeclaredIsUsed}
use Rattle.term_again.proofs.TermNames.{passes_at}
use Rattle.read_again.proofs.MadeGroups.{made_comes, made_known}
use Rattle.term_again.proofs.TermBounds.{declared_bound, fitting_bound, term_bound, terms_bound}
use Rattle.read_again.proofs.ReachedGroups.{within_reach}
use Rattle.read_again.proofs.ClauseWritten.{both_fit}
use Rattle.read_again.proofs.UsedReach.{at_most, most_within, sort_reaches, position_within, variable_within, term_within, state_top}

-- ---- a state reaches no further than its datatypes

-- what fits of a clause: the sorts of its variables, and the terms of its conjuncts and atoms
record ClauseFits (sig : Signature) (c : Clause) : Type 0 where
  vars_fit : list_all (sort_fits sig) c.vars ≡ true
  conditions_fit : list_all (term_fits sig) c.conj ≡ true
  atoms_fit : list_all (atom_fits sig) c.body ≡ true
  head_fits_too : head_all (atom_fits sig) c.head ≡ true

clause_fitting : (sig : Signature) (c : Clause) → clause_fits sig c ≡ true → ClauseFits sig c
clause_fitting sig c h =
    let sorts = list_all (sort_fits sig) c.vars in
    let conditions = list_all (term_fits sig) c.conj in
    let atoms = list_all (atom_fits sig) c.body in
    let whole = and_parts (sorts && conditions && atoms) (head_all (atom_fits sig) c.head) h in
    let three = and_parts (sorts && conditions) atoms whole.0 in
    let two = and_parts sorts conditions three.0 in
    record { vars_fit = two.0; conditions_fit = two.1; atoms_fit = three.1; head_fits_too = whole.1 }

module _ (sig : Signature) where
  sorts_within : (ss : List Sort) → list_all (sort_fits sig) ss ≡ true → sorts_reach ss ≤ length sig.datatypes
  sorts_within ss fits = most_within sort_reach (length sig.datatypes) ss (λ s there. fitting_bound sig s (all-at (sort_fits sig) s ss fits there))

  args_near : (vars : List Sort) (ts : List Term) (ss : List Sort) → sorts_of (clause_context sig) ts vars ≡ Some ss → list_all (term_fits sig) ts ≡ true
      → terms_reach ts ≤ length sig.datatypes
  args_near vars ts ss h fits = terms_bound (clause_context sig) ts vars ss h (both_fit ts sig fits).0

  module _ (preds : List (List Sort)) where
    condition_near : (vars : List Sort) (t : Term) → is_condition sig vars t ≡ true → term_fits sig t ≡ true → term_reach t ≤ length sig.datatypes
    condition_near vars t sorted fits =
        let parts = and_parts (is_plain t) (is_sort sort.Bool (sort_of (clause_context sig) t vars)) sorted in
        by (sort_of (clause_context sig) t vars) refl parts.1
      where
        by : (o : Option Sort) → sort_of (clause_context sig) t vars ≡ o → is_sort sort.Bool (sort_of (clause_context sig) t vars) ≡ true → term_reach t ≤ length sig.datatypes
        by None e is = absurd (false≢true (sym (ap (is_sort sort.Bool) e) ∙ is))
        by (Some s) e is = term_bound (clause_context sig) t vars s e (and_parts (sorts_fit sig t) (numbers_fit t) fits).0

    atom_near : (vars : List Sort) (a : Atom) → is_sorted_atom sig preds vars a ≡ true → atom_fits sig a ≡ true → atom_reach a ≤ length sig.datatypes
    atom_near vars a sorted fits = let args = SortedArgs-atom sig preds vars a sorted in args_near vars a.args args.sorts args.sorted fits

    head_near : (vars : List Sort) (head : Option Atom) → head_all (is_sorted_atom sig preds vars) head ≡ true → head_all (atom_fits sig) head ≡ true → head_reach head ≤ length sig.datatypes
    head_near vars None sorted fits = omega arith
    head_near vars (Some a) sorted fits = atom_near vars a sorted fits

    clause_near : (c : Clause) → is_well_formed sig preds c ≡ true → clause_reach c ≤ length sig.datatypes
    clause_near c h =
        let formed = and_parts (is_sorted_clause sig preds c && clause_fits sig c) (list_all is_part c.conj) h in
        let both = and_parts (is_sorted_clause sig preds c) (clause_fits sig c) formed.0 in
        let conditions = list_all (is_condition sig c.vars) c.conj in
        let atoms = list_all (is_sorted_atom sig preds c.vars) c.body in
        let whole = and_parts (conditions && atoms) (head_all (is_sorted_atom sig preds c.vars) c.head) both.0 in
        let two = and_parts conditions atoms whole.0 in
        let fits = clause_fitting sig c both.1 in
        let of_conj = most_within term_reach (length sig.datatypes) c.conj
        (λ t there. condition_near c.vars t (all-at (is_condition sig c.vars) t c.conj two.0 there) (all-at (term_fits sig) t c.conj fits.conditions_fit there)) in
        let of_body = most_within atom_reach (length sig.datatypes) c.body
        (λ a there. atom_near c.vars a (all-at (is_sorted_atom sig preds c.vars) a c.body two.1 there) (all-at (atom_fits sig) a c.body fits.atoms_fit there)) in
        omega (arith, sorts_within c.vars fits.vars_fit, of_conj, of_body, head_near c.vars c.head whole.1 fits.head_fits_too)

  positions_near : (ps : List PredDecl) → positions_fit sig ps ≡ true → (p : PredDecl) → In p ps → decl_reach p ≤ length sig.datatypes
  positions_near [] fits p there = absurd there
  positions_near (q ∷ ps) fits p (inl e) =
      by p.live (sorts_within p.sorts (ap (λ (r : PredDecl). list_all (sort_fits sig) r.sorts) e ∙ (and_parts (list_all (sort_fits sig) q.sorts) (list_all (list_all (sort_fits sig)) (positions ps)) fits).0))
    where
      by : (b : Bool) → sorts_reach p.sorts ≤ length sig.datatypes → (if b then sorts_reach p.sorts else 0) ≤ length sig.datatypes
      by true l = l
      by false l = omega arith
  positions_near (q ∷ ps) fits p (inr there) = positions_near ps (and_parts (list_all (sort_fits sig) q.sorts) (list_all (list_all (sort_fits sig)) (positions ps)) fits).1 p there

pub state_near : (s : StateView) → are_well_formed s.sig s.preds s.clauses ≡ true → state_reach s ≤ length s.sig.datatypes
state_near s h =
    let formed = and_parts (positions_fit s.sig s.preds) (list_all (is_well_formed s.sig (positions s.preds)) s.clauses) h in
    let of_preds = most_within decl_reach (length s.sig.datatypes) s.preds (positions_near s.sig s.preds formed.0) in
    let of_clauses = most_within clause_reach (length s.sig.datatypes) s.clauses
    (λ c there. clause_near s.sig (positions s.preds) c (all-at (is_well_formed s.sig (positions s.preds)) c s.clauses formed.1 there)) in
    omega (arith, of_preds, of_clauses)

-- ---- what is used is declared

reached_most : (reach from : ℕ) (sizes : List ℕ) → groups_reached reach from sizes ≤ length sizes
reached_most reach from [] = omega arith
reached_most reach from (size ∷ sizes) = by (nat_lt from reach) (reached_most reach (from + size) sizes)
  where
    by : (b : Bool) → groups_reached reach (from + size) sizes ≤ length sizes → (if b then 1 + groups_reached reach (from + size) sizes else 0) ≤ length (size ∷ sizes)
    by true l = omega (arith, l)
    by false l = omega arith

still_at : {X : Type 0} (xs : List X) (n i : ℕ) (x : X) → i < length (take n xs) → slice_get xs i ≡ Some x → slice_get (take n xs) i ≡ Some x
still_at xs zero i x low at = absurd (omega (arith, low))
still_at [] (suc n) i x low at = at
still_at (y ∷ xs) (suc n) zero x low at = at
still_at (y ∷ xs) (suc n) (suc i) x low at = still_at xs n i x (omega (arith, low)) at

module _ (s : StateView) (can : CanBeMade s.sig) (formed : are_well_formed s.sig s.preds s.clauses ≡ true) where
  -- a datatype within the reach
  within_declared : (d : ℕ) → d + 1 ≤ state_reach s → d < length (reached_signature s.sig (state_reach s)).datatypes
  within_declared d low =
      omega (arith, within_reach s.sig (made_comes s.sig can).whole (state_reach s) (d + 1) low (omega (arith, low, state_near s formed)))

  -- the datatypes in the fields of one that is declared
  field_within : (e d : ℕ) (t : Data) (k : Ctor) (f : Field) → e < length (reached_signature s.sig (state_reach s)).datatypes → slice_get s.sig.datatypes e ≡ Some t → In k t.ctors → In f k.fields
      → In d (sort_datatypes f.sort) → d < length (reached_signature s.sig (state_reach s)).datatypes
  field_within e d t k f low at of_ctor of_field names =
      let new : Signature = reached_signature s.sig (state_reach s) in
      let all = made_known s.sig can (groups_reached (state_reach s) 0 s.sig.groups) (reached_most (state_reach s) 0 s.sig.groups) in
      let there = still_at s.sig.datatypes (before_group s.sig (groups_reached (state_reach s) 0 s.sig.groups)) e t low at in
      let data_known = passes_at (is_data_known new) new.datatypes e t all there in
      let ctor_known = all-at (is_ctor_known new) k t.ctors data_known of_ctor in
      let field_known = all-at (is_field_known new) f k.fields ctor_known of_field in
      omega (arith, declared_bound new f.sort field_known, sort_reaches f.sort, at_most (λ d. d + 1) (sort_datatypes f.sort) d names)

  used_declared : (d : ℕ) → IsUsed s d → d < length (reached_signature s.sig (state_reach s)).datatypes
  used_declared _ (IsUsed.of_position p d there live names) = within_declared d (position_within s p d there live names)
  used_declared _ (IsUsed.of_variable c d there names) = within_declared d (variable_within s c d there names)
  used_declared _ (IsUsed.of_term c t d there among names) = within_declared d (term_within s c t d there among names)
  used_declared _ (IsUsed.of_field e d t k f used at of_ctor of_field names) = field_within e d t k f (used_declared e used) at of_ctor of_field names

pub used_are_declared : UsedAreDeclared
used_are_declared = used_declared

-- ---- the last group that is declared

-- the reach ends where no group is reached
none_reached : (reach from : ℕ) (sizes : List ℕ) → groups_reached reach from sizes ≡ 0 → reach ≤ from + total sizes → reach ≤ from
none_reached reach from [] none low = omega (arith, low)
none_reached reach from (size ∷ sizes) none low = by (nat_lt from reach) refl none
  where
    by : (b : Bool) → nat_lt from reach ≡ b → (if b then 1 + groups_reached reach (from + size) sizes else 0) ≡ 0 → reach ≤ from
    by true e n = absurd (omega (arith, n))
    by false e n = grind (arith, nat_tests)

-- the reach ends in the last group that it goes into
last_reached : (reach from : ℕ) (sizes : List ℕ) (n : ℕ) → groups_reached reach from sizes ≡ suc n → reach ≤ from + total sizes
    → (from + total (take n sizes) < reach) × (reach ≤ from + total (take (suc n) sizes))
last_reached reach from [] n is low = absurd (omega (arith, is))
last_reached reach from (size ∷ sizes) zero is low = by (nat_lt from reach) refl is (λ none. none_reached reach (from + size) sizes none (omega (arith, low)))
  where
    by : (b : Bool) → nat_lt from reach ≡ b → (if b then 1 + groups_reached reach (from + size) sizes else 0) ≡ 1 → (groups_reached reach (from + size) sizes ≡ 0 → reach ≤ from + size)
        → (from + 0 < reach) × (reach ≤ from + (size + 0))
    by true e n end = let into : from < reach = grind (arith, nat_tests) in (omega (arith, into), let l = end (omega (arith, n)) in omega (arith, l))
    by false e n end = absurd (omega (arith, n))
last_reached reach from (size ∷ sizes) (suc n) is low = by (nat_lt from reach) is (λ next. last_reached reach (from + size) sizes n next (omega (arith, low)))
  where
    by : (b : Bool) → (if b then 1 + groups_reached reach (from + size) sizes else 0) ≡ suc (suc n)
        → (groups_reached reach (from + size) sizes ≡ suc n → (from + size + total (take n sizes) < reach) × (reach ≤ from + size + total (take (suc n) sizes)))
        → (from + (size + total (take n sizes)) < reach) × (reach ≤ from + (size + total (take (suc n) sizes)))
    by true e rest = let r = rest (omega (arith, e)) in (omega (arith, r.0), omega (arith, r.1))
    by false e rest = absurd (omega (arith, e))

pub last_declared_is_used : LastDeclaredIsUsed
last_declared_is_used s can formed n is =
    let comes = made_comes s.sig can in
    let ends = last_reached (state_reach s) 0 s.sig.groups n is (omega (arith, state_near s formed, comes.whole)) in
    let begins = ends.0 in
    let past = ends.1 in
    let top = state_top s (omega (arith, begins)) in
    let last = top.2 in
    (top.0, top.1, omega (arith, begins, last), omega (arith, past, last))
