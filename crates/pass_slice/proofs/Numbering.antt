-- Numbers of clauses turned back.
use Rattle.std.proofs.Common.{◌≡◌, ℕ, zero, suc, ◌+◌, ◌≤◌, ◌<◌, Bool, true, false, cond, List, [], ◌∷◌, ◌++◌, length, map, take, drop, get_or, set, Option, Some, refl, sym, ap, ◌∙◌, arith, append_assoc}
use Rattle.std.specs.Prelude.{nat_lt, slice_get, unwrap_or}
use Rattle.std.specs.List.{list_all}
use Rattle.std.proofs.lemmas.Bool.{and_parts, and_from, le-ltb, lt-ltb, ltb-true}
use Rattle.std.proofs.lemmas.List.{drop_more, map_more, set_at, get_or_at, length-take-le, length-map}
use Rattle.std.proofs.lemmas.Option.{unwrap_or-slice_get}
use Rattle.chc_state.specs.declared.refutation.RefStep.{RefStep}
use Rattle.chc_state.specs.PredSets.{is_ascending}
use Rattle.chc_state.specs.Refuting.{numbers_where, number_before, numbered}
use Rattle.chc_state.proofs.Places.{element-at}

-- numbers that ascend from a lesser one lie above it by more than their place
apart : (m : ℕ) (ms : List ℕ) (i d : ℕ) → list_all (nat_lt m) ms ≡ true → is_ascending ms ≡ true → i < length ms → m + i < get_or ms i d
apart m [] i d above up inside = absurd (omega (arith, inside))
apart m (n ∷ ns) zero d above up inside = omega (arith, ltb-true m n (and_parts (nat_lt m n) (list_all (nat_lt m) ns) above).0)
apart m (n ∷ ns) (suc i) d above up inside =
    let less = ltb-true m n (and_parts (nat_lt m n) (list_all (nat_lt m) ns) above).0 in
    let ups = and_parts (list_all (nat_lt n) ns) (is_ascending ns) up in
    let rest = apart n ns i d ups.0 ups.1 (omega (arith, inside)) in
    omega (arith, less, rest)

-- all removed numbers up to one that stood before the clause stood before it
pub number_past : (ms : List ℕ) (k i d : ℕ) → is_ascending ms ≡ true → i < length ms → get_or ms i d ≤ k + i → number_before ms k ≡ number_before (drop (suc i) ms) (k + suc i)
number_past [] k i d up inside reaches = absurd (omega (arith, inside))
number_past (m ∷ ms) k zero d up inside reaches = ap (λ b. cond b k (number_before ms (k + 1))) (le-ltb k m (omega (arith, reaches)))
number_past (m ∷ ms) k (suc i) d up inside reaches =
    let ups = and_parts (list_all (nat_lt m) ms) (is_ascending ms) up in
    let further = apart m ms i d ups.0 ups.1 (omega (arith, inside)) in
    let first : m ≤ k = omega (arith, further, reaches) in
    let rest = number_past ms (k + 1) i d ups.1 (omega (arith, inside)) (omega (arith, reaches)) in
    let sum : k + 1 + suc i ≡ k + suc (suc i) = omega arith in
    ap (λ b. cond b k (number_before ms (k + 1))) (le-ltb k m first) ∙ rest ∙ ap (λ n. number_before (drop (suc i) ms) n) sum

-- the numbers of those that pass a test ascend
numbers-above : {X : Type 0} (test : X → Bool) (n : ℕ) (xs : List X) (m : ℕ) → m < n → list_all (nat_lt m) (numbers_where test n xs) ≡ true
numbers-above test n [] m less = refl
numbers-above test n (x ∷ xs) m less = go (test x) (numbers-above test (n + 1) xs m (omega (arith, less)))
  where
    go : (b : Bool) → list_all (nat_lt m) (numbers_where test (n + 1) xs) ≡ true → list_all (nat_lt m) (cond b (n ∷ numbers_where test (n + 1) xs) (numbers_where test (n + 1) xs)) ≡ true
    go true h = and_from (nat_lt m n) (list_all (nat_lt m) (numbers_where test (n + 1) xs)) (lt-ltb m n less) h
    go false h = h

pub numbers-ascend : {X : Type 0} (test : X → Bool) (n : ℕ) (xs : List X) → is_ascending (numbers_where test n xs) ≡ true
numbers-ascend test n [] = refl
numbers-ascend test n (x ∷ xs) = go (test x) (numbers-ascend test (n + 1) xs)
  where
    go : (b : Bool) → is_ascending (numbers_where test (n + 1) xs) ≡ true → is_ascending (cond b (n ∷ numbers_where test (n + 1) xs) (numbers_where test (n + 1) xs)) ≡ true
    go true h = and_from (list_all (nat_lt n) (numbers_where test (n + 1) xs)) (is_ascending (numbers_where test (n + 1) xs)) (numbers-above test (n + 1) xs n (omega arith)) h
    go false h = h

-- one turn of a loop that turns back the numbers of steps in their places
pub numbered_more : (f : ℕ → ℕ) (old items : List RefStep) (i : ℕ) (d m : RefStep) (k : ℕ) → i < length old
    → items ≡ map (numbered f) (take i old) ++ drop i old → d ≡ get_or items i d → m ≡ get_or items i m → k ≡ f d.clause
    → set items i (record { clause = k; values = m.values; premises = m.premises }) ≡ map (numbered f) (take (i + 1) old) ++ drop (i + 1) old
numbered_more f old items i d m k inside is d_is m_is k_is =
    let x = get_or old i d in
    let front = map (numbered f) (take i old) in
    let n : length (take i old) ≡ i = length-take-le i old (omega arith) in
    let long : length front ≡ i = length-map (take i old) (numbered f) ∙ n in
    let split : items ≡ front ++ x ∷ drop (i + 1) old = is ∙ ap (λ r. front ++ r) (drop_more old i d inside) in
    let d_x : d ≡ x = d_is ∙ ap (λ r. get_or r i d) split ∙ get_or_at front x (drop (i + 1) old) d i long in
    let m_x : m ≡ x = m_is ∙ ap (λ r. get_or r i m) split ∙ get_or_at front x (drop (i + 1) old) m i long in
    let new : RefStep = record { clause = k; values = m.values; premises = m.premises } in
    let one : new ≡ numbered f x = one_is m x k (f x.clause) m_x (k_is ∙ ap (λ (y : RefStep). f y.clause) d_x) in
    ap (λ r. set r i new) split
    ∙ set_at front x (drop (i + 1) old) new i long
    ∙ ap (λ y. front ++ y ∷ drop (i + 1) old) one
    ∙ sym (append_assoc front (numbered f x ∷ []) (drop (i + 1) old))
    ∙ ap (λ r. r ++ drop (i + 1) old) (sym (map_more (numbered f) old i d inside))
  where
    one_is : (m x : RefStep) (k l : ℕ) → m ≡ x → k ≡ l → ◌≡◌ {A = RefStep} (record { clause = k; values = m.values; premises = m.premises }) (record { clause = l; values = x.values; premises = x.premises })
    one_is m x k l m_x e = cc

-- the element that such a loop comes to is the old one
pub numbered_at : (f : ℕ → ℕ) (old items : List RefStep) (i : ℕ) (d : RefStep) → i < length old
    → items ≡ map (numbered f) (take i old) ++ drop i old → d ≡ get_or items i d → slice_get old i ≡ Some d
numbered_at f old items i d inside is d_is =
    let x = get_or old i d in
    let front = map (numbered f) (take i old) in
    let n : length (take i old) ≡ i = length-take-le i old (omega arith) in
    let long : length front ≡ i = length-map (take i old) (numbered f) ∙ n in
    let split : items ≡ front ++ x ∷ drop (i + 1) old = is ∙ ap (λ r. front ++ r) (drop_more old i d inside) in
    let d_x : d ≡ x = d_is ∙ ap (λ r. get_or r i d) split ∙ get_or_at front x (drop (i + 1) old) d i long in
    let found = element-at old i inside in
    let is_found : found.0 ≡ x = sym (ap (λ (o : Option RefStep). unwrap_or o d) found.1) ∙ unwrap_or-slice_get old i d in
    found.1 ∙ ap Some (is_found ∙ sym d_x)
