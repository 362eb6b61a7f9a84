-- Numerals: which bytes are the decimal digits of a number in range.
use Rattle.std.proofs.Common.{◌≡◌, ℕ, zero, suc, ◌+◌, ◌*◌, ◌/◌, ◌%◌, ◌^◌, ◌≤◌, ◌<◌, List, [], ◌∷◌, ◌++◌, length, get_or, take, true, not, leb, eqb, ap, sym, refl, ◌∙◌, arith, append_assoc, append-nil, length-append, ⊎_elim}
use Rattle.std.specs.List.{list_all}
use Rattle.std.specs.Char.{digit_value, is_ascii_digit}
use Rattle.std.specs.Fmt.{decimal}
use Rattle.std.specs.Str.Parse.{AllDigits, digits_value, digits_value_after}
use Rattle.std.proofs.lemmas.Bool.{and_parts, and_from, not-true, not_from_false, le-leb, eqb-false, ne_eqb, false≢true, cases_lt}
use Rattle.std.proofs.lemmas.Fmt.{decimal_digit, decimal_step_wide, decimal_by_steps_wide, decimal_is_IsNumeral_wide}
use Rattle.std.proofs.lemmas.List.{get_or_append_left}
use Rattle.std.proofs.lemmas.Str.{digit_value_digit}
use Rattle.std.proofs.lemmas.Int.Digits.{digits_value_more}
use Rattle.std.proofs.lemmas.Str.Parse.{digit_from_value, digits_value-take-le}
use Rattle.chc_sexpr.specs.Tokens.{is_whole_number}
use Rattle.chc_sexpr.proofs.Runs.{digits_all}

-- a digit is 48 more than its value
byte_of_digit : (c : ℕ) → digit_value c < 10 → 48 + digit_value c ≡ c
byte_of_digit c d = let e = digit_value_digit c (digit_from_value c d) in omega (arith, digit_from_value c d)

-- one more digit behind a number that is not 0
decimal-push : (n c : ℕ) → 0 < n → digit_value c < 10 → n * 10 + digit_value c < 2 ^ 127 → decimal (n * 10 + digit_value c) ≡ decimal n ++ c ∷ []
decimal-push n c some d small =
    let m : ℕ = n * 10 + digit_value c in
    let front : m / 10 ≡ n = omega arith in
    let last : 48 + m % 10 ≡ c = omega (arith, byte_of_digit c d) in
    decimal_step_wide m (omega arith) (omega arith) ∙ (λ i. decimal (front i) ++ last i ∷ [])

-- more digits make no number smaller
value_grows : (n : ℕ) (ds : List ℕ) → n ≤ digits_value_after 10 n ds
value_grows n [] = omega arith
value_grows n (c ∷ cs) = omega (arith, value_grows (n * 10 + digit_value c) cs)

-- more digits behind a number that is not 0
decimal-digits_value_after : (n : ℕ) (ds : List ℕ) → 0 < n → AllDigits 10 ds → digits_value_after 10 n ds < 2 ^ 127 → decimal (digits_value_after 10 n ds) ≡ decimal n ++ ds
decimal-digits_value_after n [] some all small = sym (append-nil (decimal n))
decimal-digits_value_after n (c ∷ cs) some all small =
    let grows = value_grows (n * 10 + digit_value c) cs in
    decimal-digits_value_after (n * 10 + digit_value c) cs (omega arith) all.1 small
    ∙ ap (λ ds. ds ++ cs) (decimal-push n c some all.0 (omega arith)) ∙ append_assoc (decimal n) (c ∷ []) cs

-- digits without a needless 0 in front are the digits of their value
decimal-digits_value : (ds : List ℕ) → 0 < length ds → (get_or ds 0 0 ≡ 48 → length ds ≡ 1) → AllDigits 10 ds → digits_value 10 ds < 2 ^ 127 → decimal (digits_value 10 ds) ≡ ds
decimal-digits_value [] some lead all small = absurd (omega arith)
decimal-digits_value (c ∷ []) some lead all small =
    let is : 48 + (0 * 10 + digit_value c) ≡ c = omega (arith, byte_of_digit c all.0) in
    decimal_digit (0 * 10 + digit_value c) (omega (arith, all.0)) ∙ ap (λ x. x ∷ []) is
decimal-digits_value (c ∷ d ∷ ds) some lead all small =
    let is : 48 + (0 * 10 + digit_value c) ≡ c = omega (arith, byte_of_digit c all.0) in
    let other : c ≡ 48 → ⊥ = λ zero_first. omega (arith, lead zero_first) in
    decimal-digits_value_after (0 * 10 + digit_value c) (d ∷ ds) (omega arith) all.1 small
    ∙ ap (λ x. x ++ (d ∷ ds)) (decimal_digit (0 * 10 + digit_value c) (omega (arith, all.0)) ∙ ap (λ x. x ∷ []) is)

-- what the digits of a number are like
record IsWritten (n : ℕ) (ds : List ℕ) : Type 0 where
  some : 0 < length ds
  lead : 0 < n → 48 < get_or ds 0 0
  short : n < 10 → length ds ≡ 1

is_written : (n : ℕ) → n < 10 ^ 64 → IsWritten n (decimal n)
is_written = decimal_by_steps_wide IsWritten
    (λ n low. record { some = omega arith; lead = λ h. omega arith; short = λ h. refl })
    (λ n ds high w. record {
      some = omega (arith, length-append ds ((48 + n % 10) ∷ []));
      lead = λ h. omega (arith, get_or_append_left ds ((48 + n % 10) ∷ []) 0 0 w.some, w.lead (omega arith));
      short = λ h. omega arith;
    })

digit_is : (c : ℕ) → digit_value c < 10 → is_ascii_digit c ≡ true
digit_is c small =
    let r = digit_from_value c small in
    and_from (leb 48 c) (leb c 57) (le-leb 48 c (omega (arith, r))) (le-leb c 57 (omega (arith, r)))

digits_are : (ds : List ℕ) → AllDigits 10 ds → list_all is_ascii_digit ds ≡ true
digits_are [] all = refl
digits_are (d ∷ ds) all = and_from (is_ascii_digit d) (list_all is_ascii_digit ds) (digit_is d all.0) (digits_are ds all.1)

-- digits without a needless 0 in front are a whole number
pub whole_from : (ds : List ℕ) → 0 < length ds → (get_or ds 0 0 ≡ 48 → length ds ≡ 1) → AllDigits 10 ds → is_whole_number ds ≡ true
whole_from [] some lead all = absurd (omega arith)
whole_from (d ∷ []) some lead all = digit_is d all.0
whole_from (d ∷ e ∷ ds) some lead all =
    let other : d ≡ 48 → ⊥ = λ zero_first. omega (arith, lead zero_first) in
    and_from (not (eqb d 48)) (list_all is_ascii_digit (d ∷ e ∷ ds)) (not_from_false (eqb d 48) (ne_eqb d 48 other)) (digits_are (d ∷ e ∷ ds) all)

-- a number in range is written as a whole number
pub whole_decimal : (n : ℕ) → n < 2 ^ 127 → is_whole_number (decimal n) ≡ true
whole_decimal n small =
    let w = is_written n (omega arith) in
    let read = decimal_is_IsNumeral_wide n (omega arith) in
    whole_from (decimal n) w.some (λ h. w.short (⊎_elim (λ low. low) (λ high. absurd (omega (arith, h, w.lead (omega arith)))) (cases_lt n 10))) read.0.1

-- whose value it is
pub value_decimal : (n : ℕ) → n < 2 ^ 127 → digits_value 10 (decimal n) ≡ n
value_decimal n small = (decimal_is_IsNumeral_wide n (omega arith)).1

-- a whole number consists of digits
pub whole_digits : (ds : List ℕ) → is_whole_number ds ≡ true → list_all is_ascii_digit ds ≡ true
whole_digits [] h = refl
whole_digits (d ∷ []) h = and_from (is_ascii_digit d) true h refl
whole_digits (d ∷ e ∷ ds) h = (and_parts (not (eqb d 48)) (list_all is_ascii_digit (d ∷ e ∷ ds)) h).1

whole_lead : (ds : List ℕ) → is_whole_number ds ≡ true → get_or ds 0 0 ≡ 48 → length ds ≡ 1
whole_lead [] h first = absurd (false≢true h)
whole_lead (d ∷ []) h first = refl
whole_lead (d ∷ e ∷ ds) h first =
    absurd (eqb-false d 48 (not-true (eqb d 48) (and_parts (not (eqb d 48)) (list_all is_ascii_digit (d ∷ e ∷ ds)) h).0) first)

whole_some : (ds : List ℕ) → is_whole_number ds ≡ true → 0 < length ds
whole_some [] h = absurd (false≢true h)
whole_some (d ∷ ds) h = omega arith

-- each whole number in range is what its value is written as
pub decimal_whole : (ds : List ℕ) → is_whole_number ds ≡ true → digits_value 10 ds < 2 ^ 127 → decimal (digits_value 10 ds) ≡ ds
decimal_whole ds h small = decimal-digits_value ds (whole_some ds h) (whole_lead ds h) (digits_all ds (whole_digits ds h)) small

digit_value_at : (bytes : List ℕ) (i : ℕ) → AllDigits 10 bytes → i < length bytes → digit_value (get_or bytes i 0) < 10
digit_value_at [] i all h = absurd (omega arith)
digit_value_at (b ∷ bs) zero all h = all.0
digit_value_at (b ∷ bs) (suc i) all h = digit_value_at bs i all.1 (omega arith)

-- the value stays in range at each digit, where that of all the bytes is in range
pub digit_fits : (bytes : List ℕ) (i value : ℕ) → i < length bytes → value ≡ digits_value 10 (take i bytes) → AllDigits 10 bytes → digits_value 10 bytes < 2 ^ 127 → (digit_value (get_or bytes i 0) < 10) × (value * 10 + digit_value (get_or bytes i 0) < 2 ^ 127)
digit_fits bytes i value h e all small =
    (digit_value_at bytes i all h, omega (arith, digits_value_more 10 bytes i h, digits_value-take-le 10 bytes (i + 1) (omega arith)))
