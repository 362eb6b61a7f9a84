-- When the limits still hold without a clause that concludes nothing new.
use Rattle.std.proofs.Common.{◌≡◌, ◌↔◌, ◌≤◌, ℕ, zero, suc, ◌+◌, Bool, true, false, not, ◌||◌, cond, List, [], ◌∷◌, length, sum_by, count_by, Option, Some, None, inl, inr, refl, sym, ap, ◌∙◌, subst, arith}
use Rattle.std.specs.Prelude.{slice_get, remove, nat_lt, nat_eq, is_none}
use Rattle.std.specs.List.{list_any}
use Rattle.std.proofs.lemmas.Bool.{ltb-false, le-ltb, cases_Bool, false≢true, eqb-true, not-true}
use Rattle.std.proofs.lemmas.Bool.Decides.{nat_tests}
use Rattle.std.proofs.lemmas.Option.{none-some}
use Rattle.std.proofs.lemmas.List.Sums.{sum_by-cons}
use Rattle.chc_terms.specs.declared.term.Term.{Term}
use Rattle.chc_terms.specs.declared.term.Term.TheVariants as term
use Rattle.chc_terms.specs.Counts.{size, size_all}
use Rattle.chc_terms.proofs.CountLaws.{size-Lit, size_all-cons}
use Rattle.chc_state.specs.declared.clause.Atom.{Atom}
use Rattle.chc_state.specs.declared.clause.Clause.{Clause}
use Rattle.chc_state.specs.declared.clause.PredDecl.{PredDecl}
use Rattle.chc_state.specs.Limits.{charge, width, is_too_deep, is_query, reserve, state_charge, live_count, first_passed}
use Rattle.chc_state.specs.Meaning.{In}
use Rattle.chc_state.proofs.Members.{none-from, none-at}
use Rattle.chc_state.proofs.Limiting.{WithinLimits, WithinLimits-from_none, none_from-WithinLimits, not_above-smaller}
use Rattle.chc_state.proofs.Places.{same_element}
use Rattle.pass_slice.specs.Voids.{IsVoid, has_room}
use Rattle.pass_slice.proofs.Voided.{In-removed}

-- what a sum loses
sum_removed : {X : Type 0} (f : X → ℕ) (xs : List X) (k : ℕ) (x : X) → slice_get xs k ≡ Some x → sum_by f xs ≡ f x + sum_by f (remove xs k)
sum_removed f [] k x e = absurd (none-some x e)
sum_removed f (y ∷ xs) zero x e = sum_by-cons f y xs ∙ ap (λ z. f z + sum_by f xs) (same_element y x e)
sum_removed f (y ∷ xs) (suc k) x e =
    let a = sum_by-cons f y xs in
    let b = sum_by-cons f y (remove xs k) in
    let c = sum_removed f xs k x e in
    omega (arith, a, b, c)

pub length_removed : {X : Type 0} (xs : List X) (k : ℕ) (x : X) → slice_get xs k ≡ Some x → length xs ≡ suc (length (remove xs k))
length_removed [] k x e = absurd (none-some x e)
length_removed (y ∷ xs) zero x e = refl
length_removed (y ∷ xs) (suc k) x e = ap suc (length_removed xs k x e)

none_removed : {X : Type 0} (test : X → Bool) (xs : List X) (k : ℕ) → list_any test xs ≡ false → list_any test (remove xs k) ≡ false
none_removed test xs k h = none-from test (remove xs k) (λ x i. none-at test x xs h (In-removed xs k x i))

-- a void query is charged 2 or more
has_size : (conj : List Term) → In (term.Lit false) conj → 1 ≤ size_all conj
has_size [] i = absurd i
has_size (t ∷ conj) (inl same) = let one = size-Lit false in let here = ap size same in let all = size_all-cons t conj in omega (arith, one, here, all)
has_size (t ∷ conj) (inr i) = let rest = has_size conj i in let all = size_all-cons t conj in omega (arith, rest, all)

is_query-None : (o : Option Atom) → is_none o ≡ true → o ≡ None
is_query-None None h = refl
is_query-None (Some a) h = absurd (false≢true h)

heavy : (c : Clause) → IsVoid c → is_query c ≡ true → 2 ≤ charge c
heavy c (inl contradicted) asks = let one = has_size c.conj contradicted in omega (arith, one)
heavy c (inr repeats) asks = absurd (none-some repeats.0 (sym (is_query-None c.head asks) ∙ repeats.1))

-- what is kept free, with a query less
reserve_less : (q : ℕ) → (cond (nat_eq q 1) 0 2 ≤ cond (nat_eq (q + 1) 1) 0 2 + 2) × (cond (nat_eq q 1) 0 1 ≤ 1)
reserve_less q = (grind (arith, nat_tests), grind (arith, nat_tests))

-- the room for a predicate more, in numbers: q queries before and r after
room_numbers : (asks : Bool) (q r live : ℕ) → q ≡ cond asks 1 0 + r → live + cond (nat_eq q 1) 0 1 ≤ 65536
    → ((not asks || not (nat_eq q 1) || not (nat_lt 65535 live)) ≡ true) ↔ (live + cond (nat_eq r 1) 0 1 ≤ 65536)
room_numbers false q r live e h = let same : q ≡ r = omega (arith, e) in (λ room. subst (λ n. live + cond (nat_eq n 1) 0 1 ≤ 65536) same h, λ within. refl)
room_numbers true q r live e h = elim (cases_Bool (nat_eq q 1)) [
  | inl one ↦
      let is : q ≡ 1 = eqb-true q 1 one in
      let zero_left : r ≡ 0 = omega (arith, e, is) in
      let last : ◌≡◌ {A = ℕ} (cond (nat_eq r 1) 0 1) 1 = ap (λ n. cond (nat_eq n 1) 0 1) zero_left in (
        λ room.
            let few : not (nat_lt 65535 live) ≡ true = rw one at room in
            let below : live ≤ 65535 = ltb-false 65535 live (not-true (nat_lt 65535 live) few) in
            omega (arith, below, last),
        λ within.
            let below : nat_lt 65535 live ≡ false = le-ltb 65535 live (omega (arith, within, last)) in
            rw one (ap not below),
      )
  | inr more ↦
      let kept : ◌≡◌ {A = ℕ} (cond (nat_eq q 1) 0 1) 1 = ap (λ b. cond b 0 1) more in (
        λ room. omega (arith, h, kept, at_most_one (nat_eq r 1)),
        λ within. rw more refl,
      )
]
  where
    at_most_one : (b : Bool) → cond b 0 1 ≤ 1
    at_most_one true = omega arith
    at_most_one false = omega arith

module _ (preds : List PredDecl) (cs : List Clause) (k : ℕ) (c : Clause) (at : slice_get cs k ≡ Some c) (void : IsVoid c) (h : WithinLimits preds cs) where
  queries : count_by is_query cs ≡ cond (is_query c) 1 0 + count_by is_query (remove cs k)
  queries = sum_removed (λ d. cond (is_query d) 1 0) cs k c at

  charges : sum_by charge cs ≡ charge c + sum_by charge (remove cs k)
  charges = sum_removed charge cs k c at

  lengths : length cs ≡ suc (length (remove cs k))
  lengths = length_removed cs k c at

  -- the charge and the number of clauses are within their limits
  charge_falls : state_charge (remove cs k) ≤ state_charge cs
  charge_falls = go (is_query c) refl
    where
      go : (b : Bool) → is_query c ≡ b → state_charge (remove cs k) ≤ state_charge cs
      go true asks =
          let two = heavy c void asks in
          let q : count_by is_query cs ≡ 1 + count_by is_query (remove cs k) = queries ∙ ap (λ b. cond b 1 0 + count_by is_query (remove cs k)) asks in
          let r = (reserve_less (count_by is_query (remove cs k))).0 in
          let s = charges in
          grind (arith, nat_tests)
      go false concludes =
          let none : count_by is_query cs ≡ 0 + count_by is_query (remove cs k) = queries ∙ ap (λ b. cond b 1 0 + count_by is_query (remove cs k)) concludes in
          let q : count_by is_query cs ≡ count_by is_query (remove cs k) = omega (arith, none) in
          let same : reserve 2 cs ≡ reserve 2 (remove cs k) = ap (λ n. cond (nat_eq n 1) 0 2) q in
          let s = charges in
          omega (arith, same, s)

  clauses_fall : length (remove cs k) + reserve 1 (remove cs k) ≤ 65536
  clauses_fall =
      let was = ltb-false 65536 (length cs + reserve 1 cs) h.clauses in
      let one = (reserve_less (count_by is_query (remove cs k))).1 in
      let l = lengths in
      omega (arith, was, one, l)

  room : (has_room preds cs c ≡ true) ↔ (live_count preds + reserve 1 (remove cs k) ≤ 65536)
  room = room_numbers (is_query c) (count_by is_query cs) (count_by is_query (remove cs k)) (live_count preds) queries (ltb-false 65536 (live_count preds + reserve 1 cs) h.predicates)

  within_room : has_room preds cs c ≡ true → WithinLimits preds (remove cs k)
  within_room free =
      record {
        deep = none_removed is_too_deep cs k h.deep;
        charges = none_removed (λ d. nat_lt 262144 (charge d)) cs k h.charges;
        all_charges = not_above-smaller 4194304 (state_charge cs) (state_charge (remove cs k)) charge_falls h.all_charges;
        predicates = le-ltb 65536 (live_count preds + reserve 1 (remove cs k)) (room.0 free);
        positions = h.positions;
        clauses = le-ltb 65536 (length (remove cs k) + reserve 1 (remove cs k)) clauses_fall;
        widths = none_removed (λ d. nat_lt 4096 (width d)) cs k h.widths;
        bodies = none_removed (λ (d : Clause). nat_lt 256 (length d.body)) cs k h.bodies;
        weights = none_removed (λ (d : Clause). nat_lt 4096 d.weight) cs k h.weights;
      }

-- without a void clause the limits hold exactly where there is room
pub void_room : (preds : List PredDecl) (cs : List Clause) (k : ℕ) (c : Clause) → slice_get cs k ≡ Some c → IsVoid c → first_passed preds cs ≡ None
    → (has_room preds cs c ≡ true) ↔ (first_passed preds (remove cs k) ≡ None)
void_room preds cs k c at void within =
    let h = WithinLimits-from_none preds cs within in (
      λ free. none_from-WithinLimits preds (remove cs k) (within_room preds cs k c at void h free),
      λ fits. (room preds cs k c at void h).1 (ltb-false 65536 (live_count preds + reserve 1 (remove cs k)) (WithinLimits-from_none preds (remove cs k) fits).predicates),
    )
