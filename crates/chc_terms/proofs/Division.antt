-- Division with a rest that isn't negative: quotient and rest are there, and are the only ones.
use Rattle.std.proofs.Common.{◌≡◌, ◌≢◌, ℕ, zero, suc, ◌+◌, ◌-◌, ◌*◌, ◌/◌, ◌%◌, ◌<◌, ◌≤◌, ℤ, pos, negsuc, neg_ℤ, ◌+ℤ◌, ◌*ℤ◌, ◌≤ℤ◌, ◌<ℤ◌, nat_abs, refl, sym, ap, ◌∙◌, arith, mul-le-mul_left}
use Rattle.std.proofs.lemmas.Int.{ints}
use Rattle.std.proofs.Math.Decide.{dec_lt}
use Rattle.chc_terms.specs.Has.{Divides}

-- of naturals: x quotients of b with rests below b
not_less : (b x y r s : ℕ) → r < b → s < b → b * x + r ≡ b * y + s → x < y → ⊥
not_less b x y r s h k e l =
    let m : b * suc x ≤ b * y = mul-le-mul_left b l in omega arith

same_parts : (b x y r s : ℕ) → r < b → s < b → b * x + r ≡ b * y + s → (x ≡ y) × (r ≡ s)
same_parts b x y r s h k e = at (dec_lt x y) (dec_lt y x)
  where
    at : Dec (x < y) → Dec (y < x) → (x ≡ y) × (r ≡ s)
    at (yes p) q = absurd (not_less b x y r s h k e p)
    at (no n) (yes p) = absurd (not_less b y x s r k h (sym e) p)
    at (no n) (no q) = let p : x ≡ y = omega arith in let c : b * x ≡ b * y = ap (λ z. b * z) p in (p, omega arith)

-- the rest is a natural below the divisor
rest_at : (r : ℤ) → pos 0 ≤ℤ r → (k : ℕ) × (r ≡ pos k)
rest_at (pos k) h = (k, refl)
rest_at (negsuc k) h = absurd (omega (arith, ints))

-- two quotients of one divisor, by the signs
same_quotients : (n q p : ℤ) (r s : ℕ) → pos r <ℤ pos (nat_abs n) → pos s <ℤ pos (nat_abs n) → (n *ℤ q) +ℤ pos r ≡ (n *ℤ p) +ℤ pos s → (q ≡ p) × (r ≡ s)
same_quotients (pos b) (pos x) (pos y) r s h k e =
    let m = same_parts b x y r s (omega (arith, ints)) (omega (arith, ints)) (omega (arith, ints)) in (ap pos m.0, m.1)
same_quotients (pos b) (pos x) (negsuc y) r s h k e = absurd (omega (arith, ints))
same_quotients (pos b) (negsuc x) (pos y) r s h k e = absurd (omega (arith, ints))
same_quotients (pos b) (negsuc x) (negsuc y) r s h k e =
    let m = same_parts b y x r s (omega (arith, ints)) (omega (arith, ints)) (omega (arith, ints)) in (ap negsuc (sym m.0), m.1)
same_quotients (negsuc b) (pos x) (pos y) r s h k e =
    let m = same_parts (suc b) y x r s (omega (arith, ints)) (omega (arith, ints)) (omega (arith, ints)) in (ap pos (sym m.0), m.1)
same_quotients (negsuc b) (pos x) (negsuc y) r s h k e = absurd (omega (arith, ints))
same_quotients (negsuc b) (negsuc x) (pos y) r s h k e = absurd (omega (arith, ints))
same_quotients (negsuc b) (negsuc x) (negsuc y) r s h k e =
    let m = same_parts (suc b) x y r s (omega (arith, ints)) (omega (arith, ints)) (omega (arith, ints)) in (ap negsuc m.0, m.1)

pub one_division : (m n q r p s : ℤ) → Divides m n q r → Divides m n p s → (q ≡ p) × (r ≡ s)
one_division m n q r p s d e = by (rest_at r d.1) (rest_at s e.1)
  where
    by : (k : ℕ) × (r ≡ pos k) → (l : ℕ) × (s ≡ pos l) → (q ≡ p) × (r ≡ s)
    by a b =
        let h : pos a.0 <ℤ pos (nat_abs n) = rw a.1 at d.2 in
        let k : pos b.0 <ℤ pos (nat_abs n) = rw b.1 at e.2 in
        let f : (n *ℤ q) +ℤ pos a.0 ≡ (n *ℤ p) +ℤ pos b.0 = ap (λ x. (n *ℤ q) +ℤ x) (sym a.1) ∙ sym d.0 ∙ e.0 ∙ ap (λ x. (n *ℤ p) +ℤ x) b.1 in
        let c = same_quotients n q p a.0 b.0 h k f in (c.0, a.1 ∙ ap pos c.1 ∙ sym b.1)

minus_times_minus : (b x : ℕ) → negsuc b *ℤ neg_ℤ (pos x) ≡ pos (suc b * x)
minus_times_minus b zero = omega (arith, ints)
minus_times_minus b (suc x) = refl

below : (a b : ℕ) → 0 < b → a % b < b
below a b h = omega arith

whole : (a b : ℕ) → 0 < b → b * (a / b) + a % b ≡ a
whole a b h = omega arith

-- a quotient and its rest
pub record Division (m n : ℤ) : Type 0 where
  pub quotient : ℤ
  pub rest : ℤ
  pub divides : Divides m n quotient rest

some_at : (m n : ℤ) → 0 < nat_abs n → Division m n
some_at (pos a) (pos b) h =
    let l = below a b h in let e = whole a b h in
    record { quotient = pos (a / b); rest = pos (a % b); divides = (omega (arith, ints), omega (arith, ints), omega (arith, ints)) }
some_at (pos a) (negsuc b) h =
    let l = below a (suc b) h in let e = whole a (suc b) h in
    record { quotient = neg_ℤ (pos (a / suc b)); rest = pos (a % suc b); divides = (rw (minus_times_minus b (a / suc b)) (omega (arith, ints)), omega (arith, ints), omega (arith, ints)) }
some_at (negsuc a) (pos b) h =
    let l = below a b h in let e = whole a b h in
    record { quotient = negsuc (a / b); rest = pos (b - suc (a % b)); divides = (omega (arith, ints), omega (arith, ints), omega (arith, ints)) }
some_at (negsuc a) (negsuc b) h =
    let l = below a (suc b) h in let e = whole a (suc b) h in
    record { quotient = pos (suc (a / suc b)); rest = pos (suc b - suc (a % suc b)); divides = (omega (arith, ints), omega (arith, ints), omega (arith, ints)) }

not_zero : (n : ℤ) → n ≢ pos 0 → 0 < nat_abs n
not_zero (pos zero) h = absurd (h refl)
not_zero (pos (suc b)) h = omega arith
not_zero (negsuc b) h = omega arith

pub some_division : (m n : ℤ) → n ≢ pos 0 → Division m n
some_division m n h = some_at m n (not_zero n h)
