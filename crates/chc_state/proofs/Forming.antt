-- Well-formed clauses.
use Rattle.std.proofs.Common.{◌≡◌, ℕ, ◌+◌, Bool, true, false, not, ◌&&◌, cond, List, [], ◌∷◌, Option, Some, None, slice_get, option_map, refl, sym, ap, ◌∙◌}
use Rattle.std.specs.List.{list_all, position_from}
use Rattle.std.proofs.lemmas.Bool.{and_parts, and_from}
use Rattle.std.proofs.lemmas.Option.{none-some, slice_get-map}
use Rattle.chc_sorts.specs.declared.sort.Sort.{Sort}
use Rattle.chc_sorts.specs.Signature.{Signature}
use Rattle.chc_sorts.specs.Sorts.{sort_fits}
use Rattle.chc_state.specs.declared.clause.Clause.{Clause}
use Rattle.chc_state.specs.declared.clause.PredDecl.{PredDecl}
use Rattle.chc_state.specs.States.{clause_uses_live, uses_live}
use Rattle.chc_state.specs.Sorts.{positions, positions_fit, is_sorted_clause, are_sorted}
use Rattle.chc_state.specs.WellFormed.{clause_fits, is_part, is_well_formed, are_well_formed, may_stand, first_bad}

-- the sorts of a predicate's positions
pub positions-at : (preds : List PredDecl) (p : ℕ) → slice_get (positions preds) p ≡ option_map (λ (d : PredDecl). d.sorts) (slice_get preds p)
positions-at preds p = slice_get-map (λ (d : PredDecl). d.sorts) preds p

pub ruleset positions_steps = (positions-at)

-- the sorts of each predicate's positions fit
pub positions_fit-each : (sig : Signature) (preds : List PredDecl) → positions_fit sig preds ≡ list_all (λ (d : PredDecl). list_all (sort_fits sig) d.sorts) preds
positions_fit-each sig [] = refl
positions_fit-each sig (d ∷ preds) = ap (λ b. list_all (sort_fits sig) d.sorts && b) (positions_fit-each sig preds)

-- well-formed clauses are well sorted
sorted_each : (sig : Signature) (preds : List (List Sort)) (cs : List Clause) → list_all (is_well_formed sig preds) cs ≡ true → list_all (is_sorted_clause sig preds) cs ≡ true
sorted_each sig preds [] h = refl
sorted_each sig preds (c ∷ cs) h =
    let both = and_parts (is_well_formed sig preds c) (list_all (is_well_formed sig preds) cs) h in
    let outer = and_parts (is_sorted_clause sig preds c && clause_fits sig c) (list_all is_part c.conj) both.0 in
    and_from (is_sorted_clause sig preds c) (list_all (is_sorted_clause sig preds) cs) (and_parts (is_sorted_clause sig preds c) (clause_fits sig c) outer.0).0 (sorted_each sig preds cs both.1)

pub formed_sorted : (sig : Signature) (preds : List PredDecl) (cs : List Clause) → are_well_formed sig preds cs ≡ true → are_sorted sig preds cs ≡ true
formed_sorted sig preds cs h =
    let both = and_parts (positions_fit sig preds) (list_all (is_well_formed sig (positions preds)) cs) h in
    and_from (positions_fit sig preds) (list_all (is_sorted_clause sig (positions preds)) cs) both.0 (sorted_each sig (positions preds) cs both.1)

-- where none fails a test, all pass it
all_pass : {X : Type 0} (test : X → Bool) (n : ℕ) (xs : List X) → position_from (λ x. not (test x)) n xs ≡ None → list_all test xs ≡ true
all_pass test n [] h = refl
all_pass {X} test n (x ∷ xs) h = by_test (test x) refl h (all_pass test (n + 1) xs)
  where
    by_test : (b : Bool) → test x ≡ b → cond (not b) (Some n) (position_from (λ y. not (test y)) (n + 1) xs) ≡ None
        → (position_from (λ y. not (test y)) (n + 1) xs ≡ None → list_all test xs ≡ true) → list_all test (x ∷ xs) ≡ true
    by_test true e k rest = and_from (test x) (list_all test xs) e (rest k)
    by_test false e k rest = absurd (none-some n (sym k))

-- where no clause is bad, all are well formed and use live predicates alone
standing : (sig : Signature) (preds : List PredDecl) (cs : List Clause) → list_all (may_stand sig preds) cs ≡ true
    → (list_all (is_well_formed sig (positions preds)) cs ≡ true) × (uses_live preds cs ≡ true)
standing sig preds [] h = (refl, refl)
standing sig preds (c ∷ cs) h =
    let both = and_parts (may_stand sig preds c) (list_all (may_stand sig preds) cs) h in
    let one = and_parts (is_well_formed sig (positions preds) c) (clause_uses_live preds c) both.0 in
    let rest = standing sig preds cs both.1 in (
      and_from (is_well_formed sig (positions preds) c) (list_all (is_well_formed sig (positions preds)) cs) one.0 rest.0,
      and_from (clause_uses_live preds c) (uses_live preds cs) one.1 rest.1,
    )

pub none_bad_formed : (sig : Signature) (preds : List PredDecl) (cs : List Clause) → positions_fit sig preds ≡ true → first_bad sig preds cs ≡ None → are_well_formed sig preds cs ≡ true
none_bad_formed sig preds cs fit h =
    and_from (positions_fit sig preds) (list_all (is_well_formed sig (positions preds)) cs) fit (standing sig preds cs (all_pass (may_stand sig preds) 0 cs h)).0

pub none_bad_live : (sig : Signature) (preds : List PredDecl) (cs : List Clause) → first_bad sig preds cs ≡ None → uses_live preds cs ≡ true
none_bad_live sig preds cs h = (standing sig preds cs (all_pass (may_stand sig preds) 0 cs h)).1

-- what holds of clauses where none is bad
pub ruleset making = (none_bad_formed, none_bad_live)
