-- Ascending numbers, told by one look at each: the least number that may come next.
use Rattle.std.proofs.Common.{◌≡◌, ℕ, ◌+◌, ◌≤◌, Bool, true, false, not, ◌&&◌, List, [], ◌∷◌, refl, sym, ap, ◌∙◌, arith}
use Rattle.std.specs.Prelude.{nat_lt}
use Rattle.std.specs.List.{list_all}
use Rattle.std.proofs.Math.Path.{fun_ext}
use Rattle.std.proofs.lemmas.Bool.{and_parts, and_from}
use Rattle.std.proofs.lemmas.Bool.Decides.{nat_tests}
use Rattle.chc_state.specs.PredSets.{is_ascending}

abbrev at_least : ℕ → ℕ → Bool
at_least n p = not (nat_lt p n)

-- whether the numbers ascend from n on
abbrev pub rises : ℕ → List ℕ → Bool
rises n [] = true
rises n (p ∷ ps) = at_least n p && rises (p + 1) ps

above_is : (p : ℕ) (ps : List ℕ) → list_all (at_least (p + 1)) ps ≡ list_all (nat_lt p) ps
above_is p ps = ap (λ test. list_all test ps) (fun_ext (λ q. let e : at_least (p + 1) q ≡ nat_lt p q = grind (arith, nat_tests) in e))

at_least-lower : (m n p : ℕ) → m ≤ n → at_least n p ≡ true → at_least m p ≡ true
at_least-lower m n p h e = grind (arith, nat_tests)

lower : (m n : ℕ) → m ≤ n → (ps : List ℕ) → list_all (at_least n) ps ≡ true → list_all (at_least m) ps ≡ true
lower m n h [] e = refl
lower m n h (p ∷ ps) e =
    let b = and_parts (at_least n p) (list_all (at_least n) ps) e in
    and_from (at_least m p) (list_all (at_least m) ps) (at_least-lower m n p h b.0) (lower m n h ps b.1)

below_next : (n p : ℕ) → at_least n p ≡ true → n ≤ p + 1
below_next n p e = grind (arith, nat_tests)

ascending_from-rises : (n : ℕ) (ps : List ℕ) → rises n ps ≡ true → (is_ascending ps ≡ true) × (list_all (at_least n) ps ≡ true)
ascending_from-rises n [] h = (refl, refl)
ascending_from-rises n (p ∷ ps) h =
    let b = and_parts (at_least n p) (rises (p + 1) ps) h in
    let rest = ascending_from-rises (p + 1) ps b.1 in (
      and_from (list_all (nat_lt p) ps) (is_ascending ps) (sym (above_is p ps) ∙ rest.1) rest.0,
      and_from (at_least n p) (list_all (at_least n) ps) b.0 (lower n (p + 1) (below_next n p b.0) ps rest.1),
    )

rises-from_ascending : (n : ℕ) (ps : List ℕ) → is_ascending ps ≡ true → list_all (at_least n) ps ≡ true → rises n ps ≡ true
rises-from_ascending n [] up h = refl
rises-from_ascending n (p ∷ ps) up h =
    let ups = and_parts (list_all (nat_lt p) ps) (is_ascending ps) up in
    let b = and_parts (at_least n p) (list_all (at_least n) ps) h in
    and_from (at_least n p) (rises (p + 1) ps) b.0 (rises-from_ascending (p + 1) ps ups.1 (above_is p ps ∙ ups.0))

from_zero : (ps : List ℕ) → list_all (at_least 0) ps ≡ true
from_zero [] = refl
from_zero (p ∷ ps) = let e : at_least 0 p ≡ true = grind (arith, nat_tests) in and_from (at_least 0 p) (list_all (at_least 0) ps) e (from_zero ps)

both_ways : (a b : Bool) → (a ≡ true → b ≡ true) → (b ≡ true → a ≡ true) → a ≡ b
both_ways true b f g = sym (f refl)
both_ways false true f g = g refl
both_ways false false f g = refl

pub rises-is_ascending : (ps : List ℕ) → rises 0 ps ≡ is_ascending ps
rises-is_ascending ps =
    both_ways (rises 0 ps) (is_ascending ps) (λ h. (ascending_from-rises 0 ps h).0) (λ h. rises-from_ascending 0 ps h (from_zero ps))

pub ruleset ascending = (rises-is_ascending)
