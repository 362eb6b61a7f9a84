-- The digits of a number can stand between bars.
use Rattle.std.proofs.Common.{◌≡◌, ◌∙◌, ap, refl, ℕ, zero, suc, ◌+◌, ◌<◌, ◌%◌, ◌/◌, ◌==◌, Bool, true, false, not, ◌||◌, List, [], ◌∷◌, arith}
use Rattle.std.specs.Prelude.{decimal, if◌then◌else◌}
use Rattle.std.specs.Fmt.{digits, digits_onto, digit_glyph}
use Rattle.std.specs.List.{list_all}
use Rattle.std.proofs.lemmas.Bool.{and_from, lt-ltb}
use Rattle.std.proofs.lemmas.Bool.Decides.{nat_tests}
use Rattle.chc_sexpr.specs.Spelling.{is_quotable}

not_bar : (d : ℕ) → d < 10 → (48 + d == 124 || 48 + d == 92) ≡ false
not_bar d low = grind (arith, nat_tests)

glyph_of : (d : ℕ) → d < 10 → is_quotable (digit_glyph false d) ≡ true
glyph_of d low = ap (λ b. is_quotable (if b then 48 + d else 87 + d)) (lt-ltb d 10 low) ∙ ap not (not_bar d low)

glyph_quotable : (n : ℕ) → is_quotable (digit_glyph false (n % 10)) ≡ true
glyph_quotable n = glyph_of (n % 10) (omega arith)

onto_quotable : (k n : ℕ) (acc : List ℕ) → list_all is_quotable acc ≡ true → list_all is_quotable (digits_onto k 10 false n acc) ≡ true
onto_quotable zero n acc h = h
onto_quotable (suc k) n acc h =
    let more : list_all is_quotable (digit_glyph false (n % 10) ∷ acc) ≡ true = and_from (is_quotable (digit_glyph false (n % 10))) (list_all is_quotable acc) (glyph_quotable n) h in
    by (n / 10 == 0) more (onto_quotable k (n / 10) (digit_glyph false (n % 10) ∷ acc) more)
  where
    by : (b : Bool) → list_all is_quotable (digit_glyph false (n % 10) ∷ acc) ≡ true → list_all is_quotable (digits_onto k 10 false (n / 10) (digit_glyph false (n % 10) ∷ acc)) ≡ true
        → list_all is_quotable (if b then digit_glyph false (n % 10) ∷ acc else digits_onto k 10 false (n / 10) (digit_glyph false (n % 10) ∷ acc)) ≡ true
    by true p q = p
    by false p q = q

-- digits can stand between bars
pub decimal_quotable : (n : ℕ) → list_all is_quotable (decimal n) ≡ true
unfolding digits
decimal_quotable n = onto_quotable 64 n [] refl
