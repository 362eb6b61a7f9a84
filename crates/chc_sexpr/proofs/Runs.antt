-- Runs of bytes that pass a test.
use Rattle.std.proofs.Common.{◌≡◌, ℕ, suc, ◌+◌, ◌<◌, Bool, true, false, cond, List, [], ◌∷◌, ◌++◌, length, take, drop, refl, ◌∙◌, arith}
use Rattle.std.specs.List.{list_all, prefix_len}
use Rattle.std.specs.Str.Parse.{AllDigits}
use Rattle.std.specs.Char.{digit_value, is_ascii_digit}
use Rattle.std.proofs.lemmas.Bool.{and_parts, and_from, leb-true, cond-true, cond-false, not_from_false}
use Rattle.std.proofs.lemmas.Str.{digit_value_digit}
use Rattle.chc_sexpr.specs.Spelling.{stops}

module _ (test : ℕ → Bool) where
  run_step : (t : Bool) (b : ℕ) (bs : List ℕ) (n : ℕ) → test b ≡ t → list_all test (take n bs) ≡ true → list_all test (take (cond t (1 + n) 0) (b ∷ bs)) ≡ true
  run_step true b bs n e h =
      let s : 1 + n ≡ suc n = omega arith in
      rw s (and_from (test b) (list_all test (take n bs)) e h)
  run_step false b bs n e h = refl

  -- the bytes of a run pass the test
  pub run_all : (bs : List ℕ) → list_all test (take (prefix_len test bs) bs) ≡ true
  run_all [] = refl
  run_all (b ∷ bs) = run_step (test b) b bs (prefix_len test bs) refl (run_all bs)

  end_step : (t : Bool) (b : ℕ) (bs : List ℕ) (n : ℕ) → test b ≡ t → stops test (drop n bs) ≡ true → stops test (drop (cond t (1 + n) 0) (b ∷ bs)) ≡ true
  end_step true b bs n e h =
      let s : 1 + n ≡ suc n = omega arith in
      rw s h
  end_step false b bs n e h = not_from_false (test b) e

  -- and the byte behind it doesn't
  pub run_stops : (bs : List ℕ) → stops test (drop (prefix_len test bs) bs) ≡ true
  run_stops [] = refl
  run_stops (b ∷ bs) = end_step (test b) b bs (prefix_len test bs) refl (run_stops bs)

  none_stops : (ys : List ℕ) → stops test ys ≡ true → prefix_len test ys ≡ 0
  none_stops [] h = refl
  none_stops (y ∷ ys) h = cond-false (test y) (1 + prefix_len test ys) 0 (grind arith)

  -- bytes that pass the test, in front of one that doesn't, are the run
  pub run_is : (xs ys : List ℕ) → list_all test xs ≡ true → stops test ys ≡ true → prefix_len test (xs ++ ys) ≡ length xs
  run_is [] ys all h = none_stops ys h
  run_is (x ∷ xs) ys all h =
      let both = and_parts (test x) (list_all test xs) all in
      let s : 1 + prefix_len test (xs ++ ys) ≡ suc (length xs) = omega (arith, run_is xs ys both.1 h) in
      cond-true (test x) (1 + prefix_len test (xs ++ ys)) 0 both.0 ∙ s

-- a byte that stops one test stops another, which passes fewer bytes
pub stops_fewer : (more fewer : ℕ → Bool) → ((b : ℕ) → fewer b ≡ true → more b ≡ true) → (ys : List ℕ) → stops more ys ≡ true → stops fewer ys ≡ true
stops_fewer more fewer h [] s = refl
stops_fewer more fewer h (y ∷ ys) s = let k = h y in grind arith

-- decimal digits have values below 10
pub digits_all : (bs : List ℕ) → list_all is_ascii_digit bs ≡ true → AllDigits 10 bs
digits_all [] all = tt
digits_all (b ∷ bs) all =
    let both = and_parts (is_ascii_digit b) (list_all is_ascii_digit bs) all in
    let range = and_parts _ _ both.0 in
    let e = digit_value_digit b (leb-true 48 b range.0, leb-true b 57 range.1) in
    let small : digit_value b < 10 = omega (arith, e, leb-true b 57 range.1) in
    (small, digits_all bs both.1)
