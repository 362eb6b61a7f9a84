-- Tables that bound every set that meets a condition.
use Rattle.std.proofs.Common.{◌≡◌, ◌≢◌, ℕ, zero, suc, ◌+◌, ◌≤◌, ◌<◌, Bool, true, false, not, ◌||◌, cond, List, [], ◌∷◌, Some, None, Option, length, map, get_or, set, count_by, MatchOption, inl, inr, sym, ap, ◌∙◌, refl, arith, get_or-set_other, get_or-set_same, length-set}
use Rattle.std.proofs.Math.Path.{fun_ext}
use Rattle.std.specs.Prelude.{nat_lt, nat_eq, slice_get}
use Rattle.std.specs.List.{list_any, list_all}
use Rattle.std.proofs.lemmas.List.{get_or_past, length-map}
use Rattle.std.proofs.lemmas.List.Sums.{sum_by-set}
use Rattle.std.proofs.lemmas.Bool.{not_from_true, or_cases, or_left, or_from, and_from, false≢true, false_from_ne_true, cases_eq, cases_lt, eq-eqb, ne_eqb, eqb-true, lt-ltb}
use Rattle.chc_state.specs.declared.clause.Atom.{Atom}
use Rattle.chc_state.specs.declared.clause.Clause.{Clause}
use Rattle.chc_state.specs.declared.clause.PredDecl.{PredDecl}
use Rattle.pass_slice.specs.Slices.{Slice, body_meets, head_meets, is_unreached, is_unneeded, Meets, IsGreatest, Greatest}
use Rattle.chc_state.specs.States.{StateView, is_live, head_any}
use Rattle.chc_state.specs.Limits.{first_passed}
use Rattle.chc_state.specs.Meaning.{In}
use Rattle.chc_state.specs.PredSets.{PredSet, set_of, is_ascending}
use Rattle.chc_state.proofs.Members.{In-at, all-at, all-from, any-at, some-from}
use Rattle.pass_slice.specs.Tables.{marked, places, Bounds, Reaches, Needs, Strikes, AtPlace, head_pred}
use Rattle.pass_slice.proofs.Removing.{within-unreached, within-unneeded}

-- the table of the live predicates
marked-live : (ds : List PredDecl) (p : ℕ) → marked (map (λ (d : PredDecl). d.live) ds) p ≡ is_live ds p
marked-live [] p = refl
marked-live (d ∷ ds) zero = refl
marked-live (d ∷ ds) (suc p) = marked-live ds p

pub Bounds-live : (holds : List Clause → PredSet → Bool) (s : StateView) → Bounds holds s (map (λ (d : PredDecl). d.live) s.preds)
Bounds-live holds s =
    record {
      long = length-map s.preds (λ (d : PredDecl). d.live);
      live = λ p h. sym (marked-live s.preds p) ∙ h;
      within = λ set meets p h. marked-live s.preds p ∙ meets.live p h;
    }

-- a place that is no longer marked, and the others
marked-same : (table : List Bool) (p : ℕ) → marked (set table p false) p ≡ false
marked-same table p = elim (cases_lt p (length table)) [
  | inl inside ↦ get_or-set_same table p false false inside
  | inr past ↦ get_or_past (set table p false) p false (omega (arith, length-set table p false))
]

marked-other : (table : List Bool) (p q : ℕ) → q ≢ p → marked (set table p false) q ≡ marked table q
marked-other table p q ne = get_or-set_other table p q false false ne

pub marked-fewer : (table : List Bool) (p q : ℕ) → marked (set table p false) q ≡ true → marked table q ≡ true
marked-fewer table p q h = elim (cases_eq q p) [
  | inl e ↦ absurd (false≢true (sym (marked-same table p) ∙ ap (marked (set table p false)) (sym e) ∙ h))
  | inr ne ↦ sym (marked-other table p q ne) ∙ h
]

-- a marked place is within the table
pub marked-inside : (table : List Bool) (p : ℕ) → marked table p ≡ true → p < length table
marked-inside table p h = elim (cases_lt p (length table)) [
  | inl inside ↦ inside
  | inr past ↦ absurd (false≢true (sym (get_or_past table p false past) ∙ h))
]

-- a predicate that no set within the table has goes
pub Bounds-strike : (holds : List Clause → PredSet → Bool) (s : StateView) (table : List Bool) (p : ℕ) → Bounds holds s table
    → ((set' : PredSet) → Meets holds s set' → ((q : ℕ) → set' q ≡ true → marked table q ≡ true) → set' p ≡ true → ⊥)
    → Bounds holds s (set table p false)
Bounds-strike holds s table p b out =
    record {
      long = length-set table p false ∙ b.long;
      live = λ q h. b.live q (marked-fewer table p q h);
      within = λ set' meets q h. elim (cases_eq q p) [
        | inl e ↦ absurd (out set' meets (b.within set' meets) (ap set' (sym e) ∙ h))
        | inr ne ↦ marked-other table p q ne ∙ b.within set' meets q h
      ];
    }

-- some atom of the larger set's body
body_meets-more : (small large : PredSet) (c : Clause) → ((q : ℕ) → small q ≡ true → large q ≡ true) → body_meets small c ≡ true → body_meets large c ≡ true
body_meets-more small large c more h =
    let found = some-from (λ (a : Atom). small a.pred) c.body h in
    any-at (λ (a : Atom). large a.pred) found.0 c.body found.1 (more found.0.pred found.2)

head_more : (small large : PredSet) (o : Option Atom) → ((q : ℕ) → small q ≡ true → large q ≡ true) → head_any (λ (a : Atom). small a.pred) o ≡ true → head_any (λ (a : Atom). large a.pred) o ≡ true
head_more small large None more h = h
head_more small large (Some a) more h = more a.pred h

head_at : (set' : PredSet) (o : Option Atom) (p : ℕ) → head_pred o ≡ Some p → set' p ≡ true → head_any (λ (a : Atom). set' a.pred) o ≡ true
head_at set' None p e h = absurd (none_some p e)
  where
    none_some : (p : ℕ) → None ≡ Some p → ⊥
    none_some p e = cc
head_at set' (Some a) p e h = ap set' (same a.pred p e) ∙ h
  where
    same : (a p : ℕ) → Some a ≡ Some p → a ≡ p
    same a p e = cc

pub head_stays_out : (table : List Bool) (p : ℕ) (c : Clause) → head_meets (marked table) c ≡ false → head_meets (marked (set table p false)) c ≡ false
head_stays_out table p c out =
    false_from_ne_true (head_meets (marked (set table p false)) c) (λ h.
    false≢true (sym out ∙ head_more (marked (set table p false)) (marked table) c.head (marked-fewer table p) h))

-- what a clause reaches goes
pub Bounds-reached : (s : StateView) (table : List Bool) (c : Clause) (p : ℕ) → Bounds is_unreached s table → In c s.clauses → Reaches (marked table) c p → Bounds is_unreached s (set table p false)
Bounds-reached s table c p b i r =
    Bounds-strike is_unreached s table p b (λ set' meets within h.
    let concludes = head_at set' c.head p r.concludes h in
    elim (or_cases (not (head_meets set' c)) (body_meets set' c) (all-at (λ c. not (head_meets set' c) || body_meets set' c) c s.clauses meets.condition i)) [
      | inl e ↦ false≢true (sym (not_from_true (head_meets set' c) concludes) ∙ e)
      | inr e ↦ false≢true (sym r.free ∙ body_meets-more set' (marked table) c within e)
    ])

-- what a clause needs goes
pub Bounds-needed : (s : StateView) (table : List Bool) (c : Clause) (p : ℕ) → Bounds is_unneeded s table → In c s.clauses → Needs (marked table) c p → Bounds is_unneeded s (set table p false)
Bounds-needed s table c p b i r =
    Bounds-strike is_unneeded s table p b (λ set' meets within h.
    let uses = body_at set' c p r.uses h in
    elim (or_cases (head_meets set' c) (not (body_meets set' c)) (all-at (λ c. head_meets set' c || not (body_meets set' c)) c s.clauses meets.condition i)) [
      | inl e ↦ false≢true (sym r.free ∙ head_more set' (marked table) c.head within e)
      | inr e ↦ false≢true (sym (not_from_true (body_meets set' c) uses) ∙ e)
    ])
  where
    body_at : (set' : PredSet) (c : Clause) (p : ℕ) → list_any (λ (a : Atom). nat_eq a.pred p) c.body ≡ true → set' p ≡ true → body_meets set' c ≡ true
    body_at set' c p uses h =
        let found = some-from (λ (a : Atom). nat_eq a.pred p) c.body uses in
        any-at (λ (a : Atom). set' a.pred) found.0 c.body found.1 (ap set' (eqb-true found.0.pred p found.2) ∙ h)

-- the numbers of the marked places
above : (n : ℕ) (table : List Bool) (m : ℕ) → m < n → list_all (nat_lt m) (places n table) ≡ true
above n [] m h = refl
above n (true ∷ table) m h = and_from (nat_lt m n) (list_all (nat_lt m) (places (n + 1) table)) (lt-ltb m n h) (above (n + 1) table m (omega arith))
above n (false ∷ table) m h = above (n + 1) table m (omega arith)

pub is_ascending-places : (n : ℕ) (table : List Bool) → is_ascending (places n table) ≡ true
is_ascending-places n [] = refl
is_ascending-places n (true ∷ table) = and_from (list_all (nat_lt n) (places (n + 1) table)) (is_ascending (places (n + 1) table)) (above (n + 1) table n (omega arith)) (is_ascending-places (n + 1) table)
is_ascending-places n (false ∷ table) = is_ascending-places (n + 1) table

below_none : (n : ℕ) (table : List Bool) (p : ℕ) → p < n → set_of (places n table) p ≡ false
below_none n [] p h = refl
below_none n (true ∷ table) p h = or_from (nat_eq p n) (set_of (places (n + 1) table) p) (ne_eqb p n (λ e. omega arith)) (below_none (n + 1) table p (omega arith))
below_none n (false ∷ table) p h = below_none (n + 1) table p (omega arith)

places_at : (n : ℕ) (table : List Bool) (p : ℕ) → set_of (places n table) (n + p) ≡ marked table p
places_at n [] p = refl
places_at n (true ∷ table) zero = or_left (nat_eq (n + 0) n) (set_of (places (n + 1) table) (n + 0)) (eq-eqb (n + 0) n (omega arith))
places_at n (false ∷ table) zero = below_none (n + 1) table (n + 0) (omega arith)
places_at n (true ∷ table) (suc p) =
    let e : n + 1 + p ≡ n + suc p = omega arith in
    ap (λ b. b || set_of (places (n + 1) table) (n + suc p)) (ne_eqb (n + suc p) n (λ f. omega arith))
    ∙ ap (set_of (places (n + 1) table)) (sym e) ∙ places_at (n + 1) table p
places_at n (false ∷ table) (suc p) =
    let e : n + 1 + p ≡ n + suc p = omega arith in
    ap (set_of (places (n + 1) table)) (sym e) ∙ places_at (n + 1) table p

pub set_of-places : (table : List Bool) → set_of (places 0 table) ≡ marked table
set_of-places table = fun_ext (λ p. let e : 0 + p ≡ p = omega arith in ap (set_of (places 0 table)) (sym e) ∙ places_at 0 table p)

set_of-member : (p : ℕ) (ps : List ℕ) → In p ps → set_of ps p ≡ true
set_of-member p ps i = any-at (nat_eq p) p ps i (eq-eqb p p refl)

-- the numbers of a settled table are the greatest set
numbers_live : (holds : List Clause → PredSet → Bool) (s : StateView) (table : List Bool) (ps : List ℕ) → Bounds holds s table → ps ≡ places 0 table → list_all (is_live s.preds) ps ≡ true
numbers_live holds s table ps b e =
    all-from (is_live s.preds) ps (λ p i. b.live p (ap (λ f. f p) (sym (set_of-places table)) ∙ ap (λ qs. set_of qs p) (sym e) ∙ set_of-member p ps i))

pub nothing_found : (holds : List Clause → PredSet → Bool) (s : StateView) (table : List Bool) → Bounds holds s table → places 0 table ≡ []
    → (set' : PredSet) → Meets holds s set' → (p : ℕ) → set' p ≡ true → ⊥
nothing_found holds s table b e set' meets p h =
    false≢true (ap (λ qs. set_of qs p) (sym e) ∙ ap (λ f. f p) (set_of-places table) ∙ b.within set' meets p h)

module _ (s : StateView) (table : List Bool) (ps : List ℕ) (e : ps ≡ places 0 table) (some : ps ≢ []) (within : first_passed s.preds s.clauses ≡ None) where
  same_set : set_of ps ≡ marked table
  same_set = ap set_of e ∙ set_of-places table

  greatest : (holds : List Clause → PredSet → Bool) → Bounds holds s table → (set' : PredSet) → Meets holds s set' → (p : ℕ) → set' p ≡ true → set_of ps p ≡ true
  greatest holds b set' meets p h = ap (λ f. f p) same_set ∙ b.within set' meets p h

  ascending : is_ascending ps ≡ true
  ascending = ap is_ascending e ∙ is_ascending-places 0 table

  pub unreached_found : Bounds is_unreached s table → is_unreached s.clauses (marked table) ≡ true → IsGreatest Slice.forward s ps
  unreached_found b settled =
      let live = numbers_live is_unreached s table ps b e in
      record {
        legal = record {
          some = some;
          ascending = ascending;
          live = live;
          meets = ap (is_unreached s.clauses) same_set ∙ settled;
          within = within-unreached s ps some live within;
        };
        greatest = greatest is_unreached b;
      }

  pub unneeded_found : Bounds is_unneeded s table → is_unneeded s.clauses (marked table) ≡ true → IsGreatest Slice.backward s ps
  unneeded_found b settled =
      let live = numbers_live is_unneeded s table ps b e in
      record {
        legal = record {
          some = some;
          ascending = ascending;
          live = live;
          meets = ap (is_unneeded s.clauses) same_set ∙ settled;
          within = within-unneeded s ps some live within;
        };
        greatest = greatest is_unneeded b;
      }

-- one place has one element
one_element : {X : Type 0} {o : Option X} (d c : X) → o ≡ Some d → o ≡ Some c → d ≡ c
one_element d c e f = cc

-- what a look at the clause of number k tells
pub candidate_reached : (s : StateView) (table : List Bool) (k : ℕ) (c : Clause) (r : Option ℕ) → Bounds is_unreached s table → slice_get s.clauses k ≡ Some c
    → MatchOption r ((not (head_meets (marked table) c) || body_meets (marked table) c) ≡ true) (Reaches (marked table) c)
    → MatchOption r (AtPlace (λ c. not (head_meets (marked table) c) || body_meets (marked table) c) s.clauses k) (Strikes is_unreached s table)
candidate_reached s table k c None b at h = λ d e. ap (λ c. not (head_meets (marked table) c) || body_meets (marked table) c) (one_element d c e at) ∙ h
candidate_reached s table k c (Some p) b at h =
    record { in_set = h.in_set; inside = marked-inside table p h.in_set; bounds = Bounds-reached s table c p b (In-at s.clauses k c at) h }

pub candidate_needed : (s : StateView) (table : List Bool) (k : ℕ) (c : Clause) (r : Option ℕ) → Bounds is_unneeded s table → slice_get s.clauses k ≡ Some c
    → MatchOption r ((head_meets (marked table) c || not (body_meets (marked table) c)) ≡ true) (Needs (marked table) c)
    → MatchOption r (AtPlace (λ c. head_meets (marked table) c || not (body_meets (marked table) c)) s.clauses k) (Strikes is_unneeded s table)
candidate_needed s table k c None b at h = λ d e. ap (λ c. head_meets (marked table) c || not (body_meets (marked table) c)) (one_element d c e at) ∙ h
candidate_needed s table k c (Some p) b at h =
    record { in_set = h.in_set; inside = marked-inside table p h.in_set; bounds = Bounds-needed s table c p b (In-at s.clauses k c at) h }

-- how many places are marked falls
pub marked_count-falls : (table : List Bool) (p : ℕ) → p < length table → marked table p ≡ true → count_by (λ b. b) (set table p false) < count_by (λ b. b) table
marked_count-falls table p inside h =
    let e = sum_by-set (λ b. cond b 1 0) table p false false inside in
    let was = was_one (get_or table p false) h in
    omega (arith, e, was)
  where
    was_one : (b : Bool) → b ≡ true → 1 ≤ cond b 1 0
    was_one true h = omega arith
    was_one false h = absurd (false≢true h)

-- what some numbers of the settled table tell
pub unreached_finds : (s : StateView) (table : List Bool) (found : Option (List ℕ)) → first_passed s.preds s.clauses ≡ None
    → Bounds is_unreached s table → is_unreached s.clauses (marked table) ≡ true
    → MatchOption found (places 0 table ≡ []) (λ ps. (ps ≡ places 0 table) × (ps ≢ [])) → Greatest Slice.forward s found
unreached_finds s table None within b settled h = nothing_found is_unreached s table b h
unreached_finds s table (Some ps) within b settled h = unreached_found s table ps h.0 h.1 within b settled

pub unneeded_finds : (s : StateView) (table : List Bool) (found : Option (List ℕ)) → first_passed s.preds s.clauses ≡ None
    → Bounds is_unneeded s table → is_unneeded s.clauses (marked table) ≡ true
    → MatchOption found (places 0 table ≡ []) (λ ps. (ps ≡ places 0 table) × (ps ≢ [])) → Greatest Slice.backward s found
unneeded_finds s table None within b settled h = nothing_found is_unneeded s table b h
unneeded_finds s table (Some ps) within b settled h = unneeded_found s table ps h.0 h.1 within b settled

-- live predicates have places
pub live_inside : (preds : List PredDecl) (ps : List ℕ) (n : ℕ) → n ≡ length preds → list_all (is_live preds) ps ≡ true → list_all (λ p. nat_lt p n) ps ≡ true
live_inside preds ps n e h = all-from (λ p. nat_lt p n) ps (λ p i. lt-ltb p n (omega (arith, inside preds p (all-at (is_live preds) p ps h i), e)))
  where
    inside : (preds : List PredDecl) (p : ℕ) → is_live preds p ≡ true → p < length preds
    inside [] p h = absurd (false≢true h)
    inside (d ∷ preds) zero h = omega arith
    inside (d ∷ preds) (suc p) h = let below = inside preds p h in omega arith

-- the members of a list of live predicates are live
pub set_of-live : (preds : List PredDecl) (ps : List ℕ) (p : ℕ) → list_all (is_live preds) ps ≡ true → set_of ps p ≡ true → is_live preds p ≡ true
set_of-live preds ps p live h =
    let found = some-from (nat_eq p) ps h in
    ap (is_live preds) (eqb-true p found.0 found.2) ∙ all-at (is_live preds) found.0 ps live found.1
