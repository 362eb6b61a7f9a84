-- The sums that are kept beside assertions, with one more clause and at the end.
use Rattle.std.proofs.Common.{◌≡◌, ℕ, ◌+◌, ◌≤◌, Bool, true, false, ◌||◌, cond, List, [], ◌∷◌, ◌++◌, length, length-append, sum_by, count_by, Some, None, refl, ap, sym, subst, ◌∙◌, arith}
use Rattle.std.specs.Prelude.{nat_lt}
use Rattle.std.specs.List.{list_any}
use Rattle.std.proofs.lemmas.Bool.{ltb-false, le-ltb}
use Rattle.std.proofs.lemmas.List.Sums.{sum_by_push}
use Rattle.chc_sorts.specs.declared.limit.Limit.{Limit}
use Rattle.chc_sorts.specs.declared.limit.Limit.TheVariants as limit
use Rattle.chc_terms.specs.declared.term.Term.{Term}
use Rattle.chc_elab.specs.declared.symbols.Symbol.{Symbol}
use Rattle.chc_state.specs.declared.clause.Clause.{Clause}
use Rattle.chc_state.specs.declared.clause.PredDecl.{PredDecl}
use Rattle.chc_state.specs.Limits.{charge, width, is_too_deep, is_query, state_charge, live_count, reserve, first_true, first_passed}
use Rattle.chc_state.proofs.Limiting.{none_from-WithinLimits}
use Rattle.chc_script.specs.Drafts.{AssertedView, PredicatesView, AreAsserted, ArePredicates, with_assertion, passed_by_clause, passed_by_all}
use Rattle.chc_script.proofs.PredicateLaws.{none_more}

-- none of the limits of a list is passed
pub not_passed : (b : Bool) (l : Limit) (rows : List (Bool × Limit)) → first_true ((b, l) ∷ rows) ≡ None → (b ≡ false) × (first_true rows ≡ None)
not_passed true l rows h = absurd (some_none l h)
  where
    some_none : (l : Limit) → Some l ≡ None → ⊥
    some_none l e = cc
not_passed false l rows h = (refl, h)

pub passed_none : (b : Bool) (l : Limit) (rows : List (Bool × Limit)) → b ≡ false → first_true rows ≡ None → first_true ((b, l) ∷ rows) ≡ None
passed_none true l rows e h = absurd (true_false e)
  where
    true_false : true ≡ false → ⊥
    true_false e = cc
passed_none false l rows e h = h

-- the tests of a list of limits, none of which is passed
abbrev AllFalse : List (Bool × Limit) → Type 0
AllFalse [] = Unit {0}
AllFalse (row ∷ rows) = (row.0 ≡ false) × AllFalse rows

all_false : (rows : List (Bool × Limit)) → first_true rows ≡ None → AllFalse rows
all_false [] h = tt
all_false (row ∷ rows) h = let p = not_passed row.0 row.1 rows h in (p.0, all_false rows p.1)

-- the tests of a new clause
pub record PassesNone (clauses : List Clause) (c : Clause) : Type 0 where
  pub deep : is_too_deep c ≡ false
  pub charges : nat_lt 262144 (charge c) ≡ false
  pub sums : nat_lt 4194304 (sum_by charge (clauses ++ c ∷ [])) ≡ false
  pub counts : nat_lt 65536 (length (clauses ++ c ∷ [])) ≡ false
  pub widths : nat_lt 4096 (width c) ≡ false
  pub bodies : nat_lt 256 (length c.body) ≡ false

abbrev rows_with : List Clause → Clause → List (Bool × Limit)
rows_with clauses c =
    (is_too_deep c, limit.L4)
    ∷ (nat_lt 262144 (charge c), limit.L5)
    ∷ (nat_lt 4194304 (sum_by charge (clauses ++ c ∷ [])), limit.L6)
    ∷ (nat_lt 65536 (length (clauses ++ c ∷ [])), limit.L9)
    ∷ (nat_lt 4096 (width c), limit.L10)
    ∷ (nat_lt 256 (length c.body), limit.L11)
    ∷ []

pub passes_none : (clauses : List Clause) (c : Clause) → passed_by_clause clauses c ≡ None → PassesNone clauses c
passes_none clauses c h =
    let t = all_false (rows_with clauses c) h in
    record { deep = t.0; charges = t.1.0; sums = t.1.1.0; counts = t.1.1.1.0; widths = t.1.1.1.1.0; bodies = t.1.1.1.1.1.0 }

-- with one more
pub asserted_more : (a : AssertedView) (sum queries : ℕ) (t : Term) (c : Clause) → AreAsserted a sum queries → passed_by_clause a.clauses c ≡ None → c.weight ≡ 1
    → AreAsserted (with_assertion a t c) (sum + charge c) (queries + cond (is_query c) 1 0)
asserted_more a sum queries t c kept within one =
    let p = passes_none a.clauses c within in
    let more = sum_by_push charge a.clauses c in
    let total = ltb-false 4194304 (sum_by charge (a.clauses ++ c ∷ [])) p.sums in
    let counted = ltb-false 65536 (length (a.clauses ++ c ∷ [])) p.counts in
    let charged : sum + charge c ≡ sum_by charge (a.clauses ++ c ∷ []) = omega (arith, kept.charged, more) in
    record {
      same = omega (arith, kept.same, length-append a.assertions (t ∷ []), length-append a.clauses (c ∷ []));
      few = counted;
      deep = none_more is_too_deep a.clauses c kept.deep p.deep;
      charges = none_more (λ c. nat_lt 262144 (charge c)) a.clauses c kept.charges p.charges;
      widths = none_more (λ c. nat_lt 4096 (width c)) a.clauses c kept.widths p.widths;
      bodies = none_more (λ (c : Clause). nat_lt 256 (length c.body)) a.clauses c kept.bodies p.bodies;
      weights = none_more (λ (c : Clause). nat_lt 4096 c.weight) a.clauses c kept.weights (ap (nat_lt 4096) one);
      charged = charged;
      bounded = omega (arith, charged, total);
      counted = ap (λ n. n + cond (is_query c) 1 0) kept.counted ∙ sym (sum_by_push (λ c. cond (is_query c) 1 0) a.clauses c);
    }

-- at the end no limit is passed
abbrev rows_at_end : List PredDecl → List Clause → List (Bool × Limit)
rows_at_end decls clauses =
    (nat_lt 4194304 (state_charge clauses), limit.L6)
    ∷ (nat_lt 65536 (live_count decls + reserve 1 clauses), limit.L7)
    ∷ (nat_lt 65536 (length clauses + reserve 1 clauses), limit.L9)
    ∷ []

pub none_passed : (p : PredicatesView) (symbols : List (List ℕ × Symbol)) (a : AssertedView) (sum queries : ℕ) → ArePredicates p symbols → AreAsserted a sum queries
    → passed_by_all p.decls a.clauses ≡ None → first_passed p.decls a.clauses ≡ None
none_passed p symbols a sum queries declared kept within =
    let t = all_false (rows_at_end p.decls a.clauses) within in
    none_from-WithinLimits p.decls a.clauses
    (record {
      deep = kept.deep;
      charges = kept.charges;
      all_charges = t.0;
      predicates = t.1.0;
      positions = declared.short;
      clauses = t.1.1.0;
      widths = kept.widths;
      bodies = kept.bodies;
      weights = kept.weights;
    })

-- what is kept of assertions is kept of equal ones
pub asserted_of_equal : (a : AssertedView) (sum queries : ℕ) (assertions : List Term) (clauses : List Clause) (s q : ℕ)
    → assertions ≡ a.assertions → clauses ≡ a.clauses → s ≡ sum → q ≡ queries → AreAsserted a sum queries
    → AreAsserted (record { assertions = assertions; clauses = clauses }) s q
asserted_of_equal a sum queries assertions clauses s q e f g h kept = subst (λ (k : AssertedView × (ℕ × ℕ)). AreAsserted k.0 k.1.0 k.1.1) joined kept
  where
    joined : ◌≡◌ {A = AssertedView × (ℕ × ℕ)} (a, (sum, queries)) (record { assertions = assertions; clauses = clauses }, (s, q))
    joined i = (record { assertions = sym e i; clauses = sym f i }, (sym g i, sym h i))
