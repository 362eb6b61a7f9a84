-- What the loop of `write_whole` keeps.
use Rattle.std.proofs.Common.{◌≡◌, ◌∙◌, ap, sym, ℕ, ◌+◌, ◌-◌, ◌≤◌, IsTrue, List, [], ◌++◌, length, take, drop, Some, unwrap_or, arith}
use Rattle.std.proofs.lemmas.List.{length-drop, take_rest}
use Rattle.std.proofs.Math.Seq.{take-add}
use Rattle.chc_source.specs.Outside.{Outside, OnlyWrites, Took, bytes_at}
use Rattle.chc_source.proofs.Outsides.{writes_then}

-- so many bytes of the text stand in the file, and nothing else changed
pub record Written (name text : List ℕ) (done : ℕ) (old new : Outside) : Type 0 where
  pub within : done ≤ length text
  pub front : IsTrue old.tells → new.held name ≡ Some (take done text)
  pub only : OnlyWrites name old new

-- n more bytes of it were added
pub written_more : (name text : List ℕ) (done n : ℕ) (a b c : Outside)
    → Written name text done a b → n ≤ length (drop done text) → Took name (take n (drop done text)) b c → OnlyWrites name b c
    → Written name text (done + n) a c
written_more name text done n a b c w h t o = record {
  within = omega (arith, length-drop done text, w.within);
  front = λ tells.
      t (ap (λ x. x) (w.only.telling ∙ tells))
      ∙ ap (λ x. Some (unwrap_or x [] ++ take n (drop done text))) (w.front tells)
      ∙ ap Some (sym (take-add done n text));
  only = writes_then name a b c w.only o;
}

-- the same, of the slice from there to the end as code takes it
pub written_on : (name text : List ℕ) (done n : ℕ) (a b c : Outside)
    → Written name text done a b → n ≤ length (take (length text - done) (drop done text))
    → Took name (take n (take (length text - done) (drop done text))) b c → OnlyWrites name b c
    → Written name text (done + n) a c
written_on name text done n a b c w h t o =
    written_more name text done n a b c w (rw take_rest at h) (λ tells. t tells ∙ ap (λ x. Some (bytes_at b name ++ take n x)) (take_rest text done)) o
