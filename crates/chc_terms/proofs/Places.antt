-- Where the elements of a list stand once others are put in.
use Rattle.std.proofs.Common.{◌≡◌, ◌<◌, ◌≤◌, ℕ, zero, suc, ◌+◌, ◌-◌, Bool, true, false, cond, List, [], ◌∷◌, ◌++◌, length, slice_get, refl, sym, ap, ◌∙◌, arith, append_assoc, length-append}
use Rattle.std.specs.Prelude.{nat_lt}
use Rattle.std.proofs.lemmas.Bool.Decides.{nat_tests}
use Rattle.chc_terms.specs.Shifted.{moved}

below : (i n : ℕ) → nat_lt i n ≡ true → i < n
below i n e = grind (arith, nat_tests)

above : (i n : ℕ) → nat_lt i n ≡ false → n ≤ i
above i n e = grind (arith, nat_tests)

module _ {X : Type 0} where
  -- an index within the first list
  pub slice_get-first : (xs ys : List X) (i : ℕ) → i < length xs → slice_get (xs ++ ys) i ≡ slice_get xs i
  slice_get-first [] ys i h = absurd (omega arith)
  slice_get-first (x ∷ xs) ys zero h = refl
  slice_get-first (x ∷ xs) ys (suc i) h = slice_get-first xs ys i (omega arith)

  -- an index past it
  pub slice_get-second : (xs ys : List X) (i : ℕ) → slice_get (xs ++ ys) (length xs + i) ≡ slice_get ys i
  slice_get-second [] ys i = let e : 0 + i ≡ i = omega arith in ap (slice_get ys) e
  slice_get-second (x ∷ xs) ys i = let e : suc (length xs) + i ≡ suc (length xs + i) = omega arith in ap (slice_get (x ∷ (xs ++ ys))) e ∙ slice_get-second xs ys i

  -- a place and the one that it moves to
  pub slice_get-moved : (before new after : List X) (i : ℕ) → slice_get (before ++ new ++ after) (moved (length before) (length new) i) ≡ slice_get (before ++ after) i
  slice_get-moved before new after i = at (nat_lt i (length before)) refl
    where
      early : i < length before → slice_get (before ++ new ++ after) i ≡ slice_get (before ++ after) i
      early h = ap (λ l. slice_get l i) (append_assoc before new after) ∙ slice_get-first before (new ++ after) i h ∙ sym (slice_get-first before after i h)

      late : length before ≤ i → slice_get (before ++ new ++ after) (i + length new) ≡ slice_get (before ++ after) i
      late h =
          let here : i + length new ≡ length (before ++ new) + (i - length before) = omega (arith, length-append before new) in
          let there : length before + (i - length before) ≡ i = omega arith in
          ap (slice_get (before ++ new ++ after)) here ∙ slice_get-second (before ++ new) after (i - length before)
          ∙ sym (slice_get-second before after (i - length before)) ∙ ap (slice_get (before ++ after)) there

      at : (b : Bool) → nat_lt i (length before) ≡ b → slice_get (before ++ new ++ after) (cond b i (i + length new)) ≡ slice_get (before ++ after) i
      at true e = early (below i (length before) e)
      at false e = late (above i (length before) e)
