-- Refutations turned back, step for step. A step's premises are looked up in its earlier steps, whose conclusions depend
-- on their clauses and values alone.
use Rattle.std.proofs.Common.{◌≡◌, ◌≢◌, ◌↔◌, ℕ, zero, suc, ◌+◌, ◌≤◌, ◌<◌, arith, Bool, true, false, not, cond, List, [], ◌∷◌, length, map, take, Option, Some, None, inl, inr, refl, sym, ap, ◌∙◌, subst}
use Rattle.std.specs.Prelude.{slice_get, sum_by, nat_lt}
use Rattle.std.specs.List.{filter}
use Rattle.std.proofs.lemmas.Bool.{cases_Bool, not_from_true, not_from_false, lt-ltb, le-ltb}
use Rattle.std.proofs.lemmas.Option.{none-some}
use Rattle.std.proofs.lemmas.List.{length-map, take-map}
use Rattle.std.proofs.lemmas.List.Sums.{sum_by-cons}
use Rattle.chc_sorts.specs.Signature.{Signature}
use Rattle.chc_values.specs.declared.value.Value.{Value}
use Rattle.chc_values.specs.declared.world.WorldEntry.{WorldEntry}
use Rattle.chc_state.specs.declared.clause.Atom.{Atom}
use Rattle.chc_state.specs.declared.clause.Clause.{Clause}
use Rattle.chc_state.specs.declared.refutation.RefStep.{RefStep}
use Rattle.chc_state.specs.States.{StateView}
use Rattle.chc_state.specs.Refuting.{Concludes, IsPremise, ArePremises, StepHolds, IsOfQuery, Refutes, weight_at, weight_of, numbered, numbers_where, number_before}
use Rattle.chc_state.specs.Passes.{RefutesBack}
use Rattle.chc_state.proofs.Places.{one_element, mapped-at, at-map, beside-at}

-- the new step is right after the new ones before it, and a query's exactly where the old step is
pub record TurnedStep (s z : StateView) (w : List WorldEntry) (earlier : List RefStep) (x y : RefStep) : Type 0 where
  pub holds : StepHolds s.sig w s.clauses earlier y
  pub query : IsOfQuery s.clauses y ↔ IsOfQuery z.clauses x

-- a refutation of z becomes one of s where as many steps are each turned so
pub refutes_turned : (s z : StateView) (w : List WorldEntry) (r e : List RefStep) → length e ≡ length r → Refutes z w r
    → ((n : ℕ) (x y : RefStep) → slice_get r n ≡ Some x → slice_get e n ≡ Some y → StepHolds z.sig w z.clauses (take n r) x → TurnedStep s z w (take n e) x y)
    → Refutes s w e
refutes_turned s z w r e long h turns =
    record {
      some = λ none. h.some (no_length r (sym long ∙ ap length none));
      each = λ n y at. let x = beside-at e r n y (sym long) at in (turns n x.0 y x.1 at (h.each n x.0 x.1)).holds;
      query = λ n y at.
          let x = beside-at e r n y (sym long) at in
          let t = turns n x.0 y x.1 at (h.each n x.0 x.1) in
          let was = h.query n x.0 x.1 in (
            λ asks. was.0 (t.query.0 asks) ∙ sym long,
            λ last. t.query.1 (was.1 (last ∙ long)),
          );
    }
  where
    no_length : (xs : List RefStep) → length xs ≡ 0 → xs ≡ []
    no_length [] l = refl
    no_length (x ∷ xs) l = absurd (omega (arith, l))

-- clauses that stand among others, each at the place that f gives of its own
module _ (sig : Signature) (w : List WorldEntry) (cs new : List Clause) (f : ℕ → ℕ) (at : (k : ℕ) (c : Clause) → slice_get new k ≡ Some c → slice_get cs (f k) ≡ Some c) where
  Concludes-renumbered : (x : RefStep) (p : ℕ) (us : List Value) → Concludes sig w new x p us → Concludes sig w cs (numbered f x) p us
  Concludes-renumbered x p us h =
      record { clause = h.clause; head = h.head; named = at x.clause h.clause h.named; concludes = h.concludes; on = h.on; gives = h.gives }

  IsPremise-renumbered : (earlier : List RefStep) (env : List Value) (a : Atom) (q : ℕ) → IsPremise sig w new earlier env a q → IsPremise sig w cs (map (numbered f) earlier) env a q
  IsPremise-renumbered earlier env a q h =
      record {
        step = numbered f h.step;
        us = h.us;
        stands = at-map (numbered f) earlier q h.step h.stands;
        has = h.has;
        concludes = Concludes-renumbered h.step a.pred h.us h.concludes;
      }

  ArePremises-renumbered : (earlier : List RefStep) (env : List Value) (body : List Atom) (qs : List ℕ) → ArePremises sig w new earlier env body qs
      → ArePremises sig w cs (map (numbered f) earlier) env body qs
  ArePremises-renumbered earlier env [] [] h = tt
  ArePremises-renumbered earlier env [] (q ∷ qs) h = h
  ArePremises-renumbered earlier env (a ∷ body) [] h = h
  ArePremises-renumbered earlier env (a ∷ body) (q ∷ qs) h = (IsPremise-renumbered earlier env a q h.0, ArePremises-renumbered earlier env body qs h.1)

  pub StepHolds-renumbered : (earlier : List RefStep) (x : RefStep) → StepHolds sig w new earlier x → StepHolds sig w cs (map (numbered f) earlier) (numbered f x)
  StepHolds-renumbered earlier x h =
      record {
        clause = h.clause;
        named = at x.clause h.clause h.named;
        sorted = h.sorted;
        truths = h.truths;
        premises = ArePremises-renumbered earlier x.values h.clause.body x.premises h.premises;
      }

  query_renumbered : (x : RefStep) (c : Clause) → slice_get new x.clause ≡ Some c → IsOfQuery cs (numbered f x) ↔ IsOfQuery new x
  query_renumbered x c named = (
    λ asks. let same : asks.0 ≡ c = one_element asks.0 c asks.1 (at x.clause c named) in (c, named, ap (λ (d : Clause). d.head) (sym same) ∙ asks.2),
    λ asks. (asks.0, at x.clause asks.0 asks.1, asks.2),
  )

  weight_renumbered : (r : List RefStep) → ((n : ℕ) (x : RefStep) → slice_get r n ≡ Some x → (c : Clause) × (slice_get new x.clause ≡ Some c))
      → weight_of cs (map (numbered f) r) ≡ weight_of new r
  weight_renumbered [] named = refl
  weight_renumbered (x ∷ r) named =
      let c = named 0 x refl in
      let here : slice_get cs (f x.clause) ≡ slice_get new x.clause = at x.clause c.0 c.1 ∙ sym c.1 in
      sum_by-cons (λ (y : RefStep). weight_at (slice_get cs y.clause)) (numbered f x) (map (numbered f) r)
      ∙ ap (λ (o : Option Clause). weight_at o + weight_of cs (map (numbered f) r)) here
      ∙ ap (λ n. weight_at (slice_get new x.clause) + n) (weight_renumbered r (λ n y e. named (suc n) y e))
      ∙ sym (sum_by-cons (λ (y : RefStep). weight_at (slice_get new y.clause)) x r)

-- where the clauses after a step stand among those before it, the steps with the numbers turned back refute the state before
pub refutes_renumbered : (s z : StateView) (w : List WorldEntry) (f : ℕ → ℕ) → ((k : ℕ) (c : Clause) → slice_get z.clauses k ≡ Some c → slice_get s.clauses (f k) ≡ Some c)
    → z.sig ≡ s.sig → (r : List RefStep) → Refutes z w r
    → RefutesBack s z w r (map (numbered f) r)
refutes_renumbered s z w f at same r h =
    let turn : RefStep → RefStep = numbered f in
    record {
      refutes = refutes_turned s z w r (map turn r) (length-map r turn) h (λ n x y here there holds.
          let found = mapped-at turn r n y there in
          let is : turn x ≡ y = ap turn (one_element x found.0 here found.1) ∙ found.2 in
          subst (λ (v : RefStep). TurnedStep s z w (take n (map turn r)) x v) is (record {
            holds = subst (λ (sig : Signature). StepHolds sig w s.clauses (take n (map turn r)) (turn x)) same
                (subst (λ (earlier : List RefStep). StepHolds z.sig w s.clauses earlier (turn x)) (sym (take-map turn n r))
                (StepHolds-renumbered z.sig w s.clauses z.clauses f at (take n r) x holds));
            query = query_renumbered z.sig w s.clauses z.clauses f at x holds.clause holds.named;
          }));
      weight = at_most (weight_renumbered z.sig w s.clauses z.clauses f at r (λ n x here. let step = h.each n x here in (step.clause, step.named)));
    }
  where
    at_most : {m n : ℕ} → m ≡ n → m ≤ n
    at_most e = omega (arith, e)

-- the numbers of clauses that went, above a number that is below theirs
number_below : (test : Clause → Bool) (m n : ℕ) (cs : List Clause) → m < n → number_before (numbers_where test n cs) m ≡ m
number_below test m n [] h = refl
number_below test m n (c ∷ cs) h = go (test c) (number_below test m (n + 1) cs (omega (arith, h)))
  where
    go : (b : Bool) → number_before (numbers_where test (n + 1) cs) m ≡ m → number_before (cond b (n ∷ numbers_where test (n + 1) cs) (numbers_where test (n + 1) cs)) m ≡ m
    go true later = let e : nat_lt m n ≡ true = lt-ltb m n h in rw e refl
    go false later = later

record PlaceBefore (test : Clause → Bool) (n : ℕ) (cs : List Clause) (k : ℕ) (c : Clause) : Type 0 where
  place : ℕ
  is : number_before (numbers_where test n cs) (n + k) ≡ n + place
  at : slice_get cs place ≡ Some c

place_before : (test : Clause → Bool) (n : ℕ) (cs : List Clause) (k : ℕ) (c : Clause) → slice_get (filter (λ c. not (test c)) cs) k ≡ Some c → PlaceBefore test n cs k c
place_before test n [] k c e = absurd (none-some c e)
place_before test n (d ∷ cs) k c e = elim (cases_Bool (test d)) [
  | inl went ↦
      let out : not (test d) ≡ false = not_from_true (test d) went in
      let later : slice_get (filter (λ c. not (test c)) cs) k ≡ Some c = rw out at e in
      let found = place_before test (n + 1) cs k c later in
      let past : nat_lt (n + k) n ≡ false = le-ltb (n + k) n (omega arith) in
      let up : n + k + 1 ≡ n + 1 + k = omega arith in
      let down : n + 1 + found.place ≡ n + suc found.place = omega arith in
      let here : number_before (n ∷ numbers_where test (n + 1) cs) (n + k) ≡ n + suc found.place =
      rw past (ap (number_before (numbers_where test (n + 1) cs)) up ∙ found.is ∙ down) in
      record {
        place = suc found.place;
        is = ap (λ b. number_before (cond b (n ∷ numbers_where test (n + 1) cs) (numbers_where test (n + 1) cs)) (n + k)) went ∙ here;
        at = found.at;
      }
  | inr stays ↦
      let kept : not (test d) ≡ true = not_from_false (test d) stays in
      let same : slice_get (d ∷ filter (λ c. not (test c)) cs) k ≡ Some c = rw kept at e in
      at_place (λ j f. place_before test (n + 1) cs j c f) k same (ap (λ b. number_before (cond b (n ∷ numbers_where test (n + 1) cs) (numbers_where test (n + 1) cs)) (n + k)) stays)
]
  where
    at_place : ((j : ℕ) → slice_get (filter (λ c. not (test c)) cs) j ≡ Some c → PlaceBefore test (n + 1) cs j c)
        → (k : ℕ) → slice_get (d ∷ filter (λ c. not (test c)) cs) k ≡ Some c
        → number_before (numbers_where test n (d ∷ cs)) (n + k) ≡ number_before (numbers_where test (n + 1) cs) (n + k) → PlaceBefore test n (d ∷ cs) k c
    at_place later zero same e = record { place = zero; is = e ∙ number_below test (n + 0) (n + 1) cs (omega arith); at = same }
    at_place later (suc k) same e =
        let found = later k same in
        let up : n + suc k ≡ n + 1 + k = omega arith in
        let down : n + 1 + found.place ≡ n + suc found.place = omega arith in
        record { place = suc found.place; is = e ∙ ap (number_before (numbers_where test (n + 1) cs)) up ∙ found.is ∙ down; at = found.at }

-- a clause that stays has the number before that the numbers of those that went tell
pub stays_at : (test : Clause → Bool) (cs : List Clause) (k : ℕ) (c : Clause) → slice_get (filter (λ c. not (test c)) cs) k ≡ Some c
    → slice_get cs (number_before (numbers_where test 0 cs) k) ≡ Some c
stays_at test cs k c e =
    let found = place_before test 0 cs k c e in
    let same : 0 + k ≡ k = omega arith in
    let is : 0 + found.place ≡ found.place = omega arith in
    ap (slice_get cs) (ap (number_before (numbers_where test 0 cs)) (sym same) ∙ found.is ∙ is) ∙ found.at
