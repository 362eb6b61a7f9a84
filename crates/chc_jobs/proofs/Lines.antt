-- What puts come to, one after another.
use Rattle.std.proofs.Common.{◌≡◌, ℕ, ◌+◌, ◌≤◌, List, ◌++◌, take, drop, length, sym, ◌∙◌, ap, append_assoc, arith}
use Rattle.std.specs.Prelude.{IsTrue, Result, Ok, Err, min, ◌-◌}
use Rattle.std.proofs.Math.Seq.{take-add, take-append-add}
use Rattle.std.proofs.lemmas.List.{take-take, take-append-le, take_min}
use Rattle.chc_source.specs.Outside.{Grows}
use Rattle.chc_source.specs.declared.sink.Failed.{Failed}
use Rattle.chc_source.specs.Output.{Output, GoesOn}
use Rattle.chc_jobs.specs.Lines.{HasPut, HasFailed, Puts}

-- one count after another
pub Grows-then : (a b c : ℕ) → Grows a b → Grows b c → Grows a c
Grows-then a b c g h = record { never_falls = omega (arith, g.never_falls, h.never_falls); stands_still = omega (arith, g.stands_still, h.stands_still, g.never_falls, h.never_falls) }

pub GoesOn-then : (a b c : Output) → GoesOn a b → GoesOn b c → GoesOn a c
GoesOn-then a b c g h = record { telling = h.telling ∙ g.telling; count = Grows-then _ _ _ g.count h.count }

told-before : (a b : Output) → GoesOn a b → IsTrue a.tells → IsTrue b.tells
told-before a b g t = rw g.telling t

-- the first n of a text are the first of a longer one, with n cut to its length
front-of : (x y : List ℕ) (n : ℕ) → take n x ≡ take (min n (length x)) (x ++ y)
front-of x y n = let below : min n (length x) ≤ length x = omega arith in sym (take_min n x) ∙ sym (take-append-le (min n (length x)) x y below)

-- more of the bytes were put
pub HasPut-more : (bytes : List ℕ) (done n : ℕ) (a b c : Output) → HasPut (take done bytes) a b → GoesOn b c → n ≤ length bytes - done
    → (IsTrue b.tells → c.taken ≡ b.taken ++ take n (take (length bytes - done) (drop done bytes))) → HasPut (take (done + n) bytes) a c
HasPut-more bytes done n a b c p g few more = record {
  goes_on = GoesOn-then a b c p.goes_on g;
  taken = λ t. more (told-before a b p.goes_on t) ∙ ap (λ xs. b.taken ++ xs) (take-take n (length bytes - done) (drop done bytes) few)
      ∙ ap (λ xs. xs ++ take n (drop done bytes)) (p.taken t) ∙ append_assoc a.taken (take done bytes) (take n (drop done bytes))
      ∙ ap (λ xs. a.taken ++ xs) (sym (take-add done n bytes));
}

-- one text was put after another
pub HasPut-then : (x y : List ℕ) (a b c : Output) → HasPut x a b → HasPut y b c → HasPut (x ++ y) a c
HasPut-then x y a b c p q = record {
  goes_on = GoesOn-then a b c p.goes_on q.goes_on;
  taken = λ t. q.taken (told-before a b p.goes_on t) ∙ ap (λ xs. xs ++ y) (p.taken t) ∙ append_assoc a.taken x y;
}

-- a put that failed is a failure to put a longer text
pub HasFailed-longer : (x y : List ℕ) (a b : Output) → HasFailed x a b → HasFailed (x ++ y) a b
HasFailed-longer x y a b p = record {
  goes_on = p.goes_on;
  cause = p.cause;
  taken = λ t. (min (p.taken t).0 (length x), (p.taken t).1 ∙ ap (λ xs. a.taken ++ xs) (front-of x y (p.taken t).0));
}

-- after one text was put, the next failed
pub HasPut-fails : (x y : List ℕ) (a b c : Output) → HasPut x a b → HasFailed y b c → HasFailed (x ++ y) a c
HasPut-fails x y a b c p q = record {
  goes_on = GoesOn-then a b c p.goes_on q.goes_on;
  cause = omega (arith, q.cause, p.goes_on.count.never_falls);
  taken = λ t. let u = q.taken (told-before a b p.goes_on t) in
      (length x + u.0, u.1 ∙ ap (λ xs. xs ++ take u.0 y) (p.taken t) ∙ append_assoc a.taken x (take u.0 y) ∙ ap (λ xs. a.taken ++ xs) (sym (take-append-add x y u.0)));
}

-- one text was put, and then another with this result
pub Puts-then : (x y : List ℕ) (a b c : Output) (r : Result (Unit {0}) Failed) → HasPut x a b → Puts y b r c → Puts (x ++ y) a r c
Puts-then x y a b c (Ok u) p q = HasPut-then x y a b c p q
Puts-then x y a b c (Err f) p q = HasPut-fails x y a b c p q
