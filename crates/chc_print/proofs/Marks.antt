-- Which number of marks a name takes.
use Rattle.std.proofs.Common.{◌≡◌, ◌∙◌, sym, ap, refl, ℕ, zero, suc, ◌+◌, ◌<◌, ◌≤◌, ◌==◌, ◌&&◌, Bool, true, false, cond, nat_eq, List, [], ◌∷◌, length, get_or, ◌-◌, take, drop, inl, inr, replicate, Option, Some, None, arith}
use Rattle.std.specs.Char.{is_ascii_digit}
use Rattle.std.proofs.lemmas.Bool.Decides.{nat_tests}
use Rattle.std.proofs.lemmas.Bool.{cases_lt}
use Rattle.std.proofs.Math.Bool.{and-false}
use Rattle.std.proofs.lemmas.List.{length-replicate}
use Rattle.std.proofs.Math.Seq.{take-length}
use Rattle.chc_print.specs.Prefix.{begins_numbered, is_taken, marked, marks_from, takes_marks, IsVariablePrefix}

differs : (k m : ℕ) → k < m → nat_eq k m ≡ false
differs k m low = grind (arith, nat_tests)

exceeds : (m k : ℕ) → nat_eq (m + suc k) m ≡ false
exceeds m k = grind (arith, nat_tests)

same_count : (m : ℕ) → nat_eq (m + zero) m ≡ true
same_count m = grind (arith, nat_tests)

-- the step of `marks_from` at a byte that is a digit or a mark or neither
later_step : (digit mark : Bool) (m k : ℕ) (rest : Option ℕ) → nat_eq k m ≡ false → takes_marks k rest ≡ false
    → takes_marks k (cond digit (Some m) (cond mark rest None)) ≡ false
later_step true mark m k rest here more = here
later_step false true m k rest here more = more
later_step false false m k rest here more = refl

-- fewer marks than stand before are not what is found
fewer : (m k : ℕ) (bs : List ℕ) → k < m → takes_marks k (marks_from m bs) ≡ false
fewer m k [] low = refl
fewer m k (b ∷ bs) low = later_step (is_ascii_digit b) (b == 33) m k (marks_from (m + 1) bs) (differs k m low) (fewer (m + 1) k bs (omega arith))

zero_step : (digit mark : Bool) (m k : ℕ) (rest : Option ℕ) → nat_eq k m ≡ true → takes_marks k rest ≡ false
    → digit ≡ takes_marks k (cond digit (Some m) (cond mark rest None))
zero_step true mark m k rest here more = sym here
zero_step false true m k rest here more = sym more
zero_step false false m k rest here more = refl

suc_step : (digit mark : Bool) (m k : ℕ) (rest : Option ℕ) (begins : Bool) → (digit ≡ true → mark ≡ false) → nat_eq k m ≡ false → begins ≡ takes_marks k rest
    → (mark && begins) ≡ takes_marks k (cond digit (Some m) (cond mark rest None))
suc_step true mark m k rest begins apart here more = ap (λ (x : Bool). x && begins) (apart refl) ∙ sym here
suc_step false true m k rest begins apart here more = more
suc_step false false m k rest begins apart here more = refl

-- no digit is a mark
digit_no_mark : (b : ℕ) → is_ascii_digit b ≡ true → (b == 33) ≡ false
digit_no_mark b h = grind (arith, nat_tests)

begins_after : (m k : ℕ) (bs : List ℕ) → begins_numbered (replicate k 33) bs ≡ takes_marks (m + k) (marks_from m bs)
begins_after m zero [] = refl
begins_after m (suc k) [] = refl
begins_after m zero (b ∷ bs) = zero_step (is_ascii_digit b) (b == 33) m (m + zero) (marks_from (m + 1) bs) (same_count m) (fewer (m + 1) (m + zero) bs (omega arith))
begins_after m (suc k) (b ∷ bs) =
    suc_step (is_ascii_digit b) (b == 33) m (m + suc k) (marks_from (m + 1) bs) (begins_numbered (replicate k 33) bs) (digit_no_mark b) (exceeds m k)
    (begins_after (m + 1) k bs ∙ ap (λ (n : ℕ). takes_marks n (marks_from (m + 1) bs)) (omega arith))

-- the marks behind an x
pub begins_marked : (k : ℕ) (bs : List ℕ) → begins_numbered (replicate k 33) bs ≡ takes_marks k (marks_from 0 bs)
begins_marked k bs = begins_after 0 k bs ∙ ap (λ (n : ℕ). takes_marks n (marks_from 0 bs)) (omega arith)

pub first_and_rest : (name : List ℕ) → 1 ≤ length name → get_or name 0 0 ≡ 120 → name ≡ 120 ∷ take (length name - 1) (drop 1 name)
first_and_rest [] some first = absurd (omega arith)
first_and_rest (b ∷ bs) some first =
    let n : length (b ∷ bs) - 1 ≡ length bs = omega arith in
    rw (n, take-length, first) refl

-- a name that begins with an x
pub begins_x : (k : ℕ) (name rest : List ℕ) → name ≡ 120 ∷ rest → begins_numbered (marked k) name ≡ takes_marks k (marks_from 0 rest)
begins_x k name rest e = rw e (begins_marked k rest)

-- a name begins with no prefix that is as long
no_longer : (ps bs : List ℕ) → length bs ≤ length ps → begins_numbered ps bs ≡ false
no_longer [] [] short = refl
no_longer [] (b ∷ bs) short = absurd (omega arith)
no_longer (p ∷ ps) [] short = refl
no_longer (p ∷ ps) (b ∷ bs) short = ap (λ (x : Bool). (b == p) && x) (no_longer ps bs (omega arith)) ∙ and-false (b == p)

pub too_short : (k : ℕ) (name : List ℕ) → length name ≤ k → begins_numbered (marked k) name ≡ false
too_short k name short = no_longer (marked k) name (omega (arith, length-replicate {A = ℕ} k 33))

-- the first number of marks that isn't taken
free_there : (used : List (List ℕ)) (taken : List Bool) (count marks : ℕ)
    → ((k : ℕ) → count ≤ k → is_taken used (marked k) ≡ false)
    → ((k : ℕ) → k < count → get_or taken k false ≡ is_taken used (marked k))
    → (marks < count → get_or taken marks false ≡ false)
    → is_taken used (marked marks) ≡ false
free_there used taken count marks beyond value found =
    elim (cases_lt marks count) [ inl low ↦ sym (value marks low) ∙ found low | inr high ↦ beyond marks high ]

pub prefix_found : (used : List (List ℕ)) (taken : List Bool) (count marks : ℕ) (prefix : List ℕ)
    → ((k : ℕ) → count ≤ k → is_taken used (marked k) ≡ false)
    → ((k : ℕ) → k < count → get_or taken k false ≡ is_taken used (marked k))
    → marks ≤ count → ((k : ℕ) → k < marks → get_or taken k false ≡ true)
    → (marks < count → get_or taken marks false ≡ false)
    → prefix ≡ marked marks → IsVariablePrefix used prefix
prefix_found used taken count marks prefix beyond value within before found form = record {
  marks = marks;
  form = form;
  free = rw form (free_there used taken count marks beyond value found);
  least = λ fewer low. sym (value fewer (omega arith)) ∙ before fewer low;
}
