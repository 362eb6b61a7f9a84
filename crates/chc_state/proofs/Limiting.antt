-- Within the limits: each test apart, and what fewer clauses keep.
use Rattle.std.proofs.Common.{◌≡◌, ℕ, ◌+◌, ◌*◌, ◌≤◌, ◌<◌, Bool, true, false, not, cond, List, [], ◌∷◌, Some, None, length, count_by, sum_by, sym, ap, ◌∙◌, refl, arith, inl, inr}
use Rattle.std.specs.Prelude.{nat_lt, nat_eq}
use Rattle.std.specs.List.{filter, list_any}
use Rattle.std.proofs.lemmas.Bool.{ltb-false, le-ltb, not_from_true, not_from_false, cases_Bool}
use Rattle.std.proofs.lemmas.Bool.Decides.{nat_tests}
use Rattle.std.proofs.lemmas.List.Sums.{sum_by-cons}
use Rattle.chc_sorts.specs.declared.limit.Limit.{Limit}
use Rattle.chc_sorts.specs.declared.limit.Limit.TheVariants as limit
use Rattle.chc_state.specs.declared.clause.Clause.{Clause}
use Rattle.chc_state.specs.declared.clause.PredDecl.{PredDecl}
use Rattle.chc_state.specs.Limits.{charge, width, is_too_deep, is_query, reserve, state_charge, live_count, first_true, first_passed}
use Rattle.chc_state.proofs.Members.{In-filtered, none-from, none-at}

-- none of the limits is passed
pub record WithinLimits (preds : List PredDecl) (cs : List Clause) : Type 0 where
  pub deep : list_any is_too_deep cs ≡ false
  pub charges : list_any (λ c. nat_lt 262144 (charge c)) cs ≡ false
  pub all_charges : nat_lt 4194304 (state_charge cs) ≡ false
  pub predicates : nat_lt 65536 (live_count preds + reserve 1 cs) ≡ false
  pub positions : list_any (λ (d : PredDecl). nat_lt 1024 (length d.sorts)) preds ≡ false
  pub clauses : nat_lt 65536 (length cs + reserve 1 cs) ≡ false
  pub widths : list_any (λ c. nat_lt 4096 (width c)) cs ≡ false
  pub bodies : list_any (λ (c : Clause). nat_lt 256 (length c.body)) cs ≡ false
  pub weights : list_any (λ (c : Clause). nat_lt 4096 c.weight) cs ≡ false

-- the tests in the order of their limits
abbrev rows_of : List PredDecl → List Clause → List (Bool × Limit)
rows_of preds cs =
    (list_any is_too_deep cs, limit.L4)
    ∷ (list_any (λ c. nat_lt 262144 (charge c)) cs, limit.L5)
    ∷ (nat_lt 4194304 (state_charge cs), limit.L6)
    ∷ (nat_lt 65536 (live_count preds + reserve 1 cs), limit.L7)
    ∷ (list_any (λ (d : PredDecl). nat_lt 1024 (length d.sorts)) preds, limit.L8)
    ∷ (nat_lt 65536 (length cs + reserve 1 cs), limit.L9)
    ∷ (list_any (λ c. nat_lt 4096 (width c)) cs, limit.L10)
    ∷ (list_any (λ (c : Clause). nat_lt 256 (length c.body)) cs, limit.L11)
    ∷ (list_any (λ (c : Clause). nat_lt 4096 c.weight) cs, limit.L15)
    ∷ []

abbrev AllFalse : List (Bool × Limit) → Type 0
AllFalse [] = Unit {0}
AllFalse (row ∷ rows) = (row.0 ≡ false) × AllFalse rows

AllFalse-from_none : (rows : List (Bool × Limit)) → first_true rows ≡ None → AllFalse rows
AllFalse-from_none [] h = tt
AllFalse-from_none (row ∷ rows) h = elim (cases_Bool row.0) [
  | inl e ↦ let bad : Some row.1 ≡ None = rw e at h in absurd (Some_is_none row.1 bad)
  | inr e ↦ let rest : first_true rows ≡ None = rw e at h in (e, AllFalse-from_none rows rest)
]
  where
    Some_is_none : (l : Limit) → Some l ≡ None → ⊥
    Some_is_none l e = cc

none_from-AllFalse : (rows : List (Bool × Limit)) → AllFalse rows → first_true rows ≡ None
none_from-AllFalse [] h = refl
none_from-AllFalse (row ∷ rows) h = let e : row.0 ≡ false = h.0 in rw e (none_from-AllFalse rows h.1)

pub WithinLimits-from_none : (preds : List PredDecl) (cs : List Clause) → first_passed preds cs ≡ None → WithinLimits preds cs
WithinLimits-from_none preds cs e =
    let h = AllFalse-from_none (rows_of preds cs) e in
    record {
      deep = h.0;
      charges = h.1.0;
      all_charges = h.1.1.0;
      predicates = h.1.1.1.0;
      positions = h.1.1.1.1.0;
      clauses = h.1.1.1.1.1.0;
      widths = h.1.1.1.1.1.1.0;
      bodies = h.1.1.1.1.1.1.1.0;
      weights = h.1.1.1.1.1.1.1.1.0;
    }

pub none_from-WithinLimits : (preds : List PredDecl) (cs : List Clause) → WithinLimits preds cs → first_passed preds cs ≡ None
none_from-WithinLimits preds cs h =
    none_from-AllFalse (rows_of preds cs)
    (h.deep, (h.charges, (h.all_charges, (h.predicates, (h.positions, (h.clauses, (h.widths, (h.bodies, (h.weights, tt)))))))))

-- what none of the elements passes, none of those that are kept passes
pub none-filter : {X : Type 0} (test keep : X → Bool) (xs : List X) → list_any test xs ≡ false → list_any test (filter keep xs) ≡ false
none-filter test keep xs h = none-from test (filter keep xs) (λ x i. none-at test x xs h (In-filtered keep x xs i))

-- a smaller number passes no bound that a larger one doesn't
pub not_above-smaller : (m a b : ℕ) → b ≤ a → nat_lt m a ≡ false → nat_lt m b ≡ false
not_above-smaller m a b less h = le-ltb m b (omega (arith, ltb-false m a h))

-- what is kept free grows by no more than the queries that go
pub reserve-fewer : (a b : ℕ) → b ≤ a → (cond (nat_eq b 1) 0 2 + 2 * b ≤ cond (nat_eq a 1) 0 2 + 2 * a) × (cond (nat_eq b 1) 0 1 + b ≤ cond (nat_eq a 1) 0 1 + a) × (cond (nat_eq b 1) 0 1 ≤ 1)
reserve-fewer a b less = (grind (arith, nat_tests), grind (arith, nat_tests), grind (arith, nat_tests))

-- clauses go of which the queries have the charge 2 or more
module _ (gone : Clause → Bool) (heavy : (c : Clause) → gone c ≡ true → is_query c ≡ true → 2 ≤ charge c) where
  record Falls (cs kept : List Clause) : Type 0 where
    queries : count_by is_query kept ≤ count_by is_query cs
    charges : sum_by charge kept + 2 * count_by is_query cs ≤ sum_by charge cs + 2 * count_by is_query kept
    lengths : length kept + count_by is_query cs ≤ length cs + count_by is_query kept

  falls_gone : (c : Clause) (cs kept : List Clause) → gone c ≡ true → Falls cs kept → Falls (c ∷ cs) kept
  falls_gone c cs kept e h = go (is_query c) refl
    where
      go : (b : Bool) → b ≡ is_query c → Falls (c ∷ cs) kept
      go true asks =
          let heavier : 2 ≤ charge c = heavy c e (sym asks) in
          let q : count_by is_query (c ∷ cs) ≡ 1 + count_by is_query cs = sum_by-cons (λ c. cond (is_query c) 1 0) c cs ∙ ap (λ b. cond b 1 0 + count_by is_query cs) (sym asks) in
          let s : sum_by charge (c ∷ cs) ≡ charge c + sum_by charge cs = sum_by-cons charge c cs in
          record { queries = omega (arith, h.queries); charges = omega (arith, h.charges); lengths = omega (arith, h.lengths) }
      go false concludes =
          let q : count_by is_query (c ∷ cs) ≡ 0 + count_by is_query cs = sum_by-cons (λ c. cond (is_query c) 1 0) c cs ∙ ap (λ b. cond b 1 0 + count_by is_query cs) (sym concludes) in
          let s : sum_by charge (c ∷ cs) ≡ charge c + sum_by charge cs = sum_by-cons charge c cs in
          record { queries = omega (arith, h.queries); charges = omega (arith, h.charges); lengths = omega (arith, h.lengths) }

  falls_kept : (c : Clause) (cs kept : List Clause) → Falls cs kept → Falls (c ∷ cs) (c ∷ kept)
  falls_kept c cs kept h =
      let q = sum_by-cons (λ c. cond (is_query c) 1 0) c cs in
      let r = sum_by-cons (λ c. cond (is_query c) 1 0) c kept in
      let s = sum_by-cons charge c cs in
      let t = sum_by-cons charge c kept in
      record { queries = omega (arith, h.queries); charges = omega (arith, h.charges); lengths = omega (arith, h.lengths) }

  falls : (cs : List Clause) → Falls cs (filter (λ c. not (gone c)) cs)
  falls [] = record { queries = omega arith; charges = omega arith; lengths = omega arith }
  falls (c ∷ cs) = elim (cases_Bool (gone c)) [
    | inl e ↦ let h : not (gone c) ≡ false = not_from_true (gone c) e in rw h (falls_gone c cs (filter (λ c. not (gone c)) cs) e (falls cs))
    | inr e ↦ let h : not (gone c) ≡ true = not_from_false (gone c) e in rw h (falls_kept c cs (filter (λ c. not (gone c)) cs) (falls cs))
  ]

  -- without them, and with at least one predicate less, the limits still hold
  pub WithinLimits-fewer : (preds new : List PredDecl) (cs : List Clause)
      → live_count new < live_count preds
      → list_any (λ (d : PredDecl). nat_lt 1024 (length d.sorts)) new ≡ false
      → WithinLimits preds cs → WithinLimits new (filter (λ c. not (gone c)) cs)
  WithinLimits-fewer preds new cs fewer positions h =
      let keep : Clause → Bool = λ c. not (gone c) in
      let f = falls cs in
      let r = reserve-fewer (count_by is_query cs) (count_by is_query (filter keep cs)) f.queries in
      record {
        deep = none-filter is_too_deep keep cs h.deep;
        charges = none-filter (λ c. nat_lt 262144 (charge c)) keep cs h.charges;
        all_charges = not_above-smaller 4194304 (state_charge cs) (state_charge (filter keep cs)) (omega (arith, f.charges, r.0)) h.all_charges;
        predicates = not_above-smaller 65536 (live_count preds + reserve 1 cs) (live_count new + reserve 1 (filter keep cs)) (omega (arith, fewer, r.2)) h.predicates;
        positions = positions;
        clauses = not_above-smaller 65536 (length cs + reserve 1 cs) (length (filter keep cs) + reserve 1 (filter keep cs)) (omega (arith, f.lengths, r.1)) h.clauses;
        widths = none-filter (λ c. nat_lt 4096 (width c)) keep cs h.widths;
        bodies = none-filter (λ (c : Clause). nat_lt 256 (length c.body)) keep cs h.bodies;
        weights = none-filter (λ (c : Clause). nat_lt 4096 c.weight) keep cs h.weights;
      }
