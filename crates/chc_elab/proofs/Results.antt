-- Answers, and what holds where they are Ok.
use Rattle.std.proofs.Common.{◌≡◌, Result, Ok, Err, IfOk, ◌∙◌}

pub if_ok-same : {A E : Type 0} (r : Result A E) (a b : A) → a ≡ b → IfOk r (λ x. x ≡ a) → IfOk r (λ x. x ≡ b)
if_ok-same (Ok x) a b e h = h ∙ e
if_ok-same (Err x) a b e h = h
