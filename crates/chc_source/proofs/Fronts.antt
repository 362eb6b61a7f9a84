-- A text that is the first bytes of a file, and one more piece of it.
use Rattle.std.proofs.Common.{◌≡◌, ◌∙◌, ap, sym, ℕ, ◌+◌, ◌<◌, ◌≤◌, min, List, ◌++◌, length, take, drop, length-append, arith}
use Rattle.std.proofs.lemmas.List.{length-take, length-take-le, take_all}
use Rattle.std.proofs.Math.Seq.{take-add}
use Rattle.chc_source.specs.Outside.{Gave, IsFront}

pub front_longer : (file text given new : List ℕ) (place n : ℕ) → IsFront text file → n ≤ length given → place ≡ length text → Gave file place n given → new ≡ text ++ take n given → IsFront new file
front_longer file text given new place n f h e w made =
    let len : length (text ++ take n given) ≡ length text + n = length-append text (take n given) ∙ ap (λ k. length text + k) (length-take-le n given h) in
    record {
      same = made
          ∙ ap (λ v. text ++ v) w.part
          ∙ ap (λ p. text ++ take n (drop p file)) e
          ∙ ap (λ v. v ++ take n (drop (length text) file)) f.same
          ∙ sym (take-add (length text) n file)
          ∙ ap (λ k. take k file) (sym (ap length made ∙ len));
    }

pub front_whole : (file text given : List ℕ) (n : ℕ) → n ≡ 0 → IsFront text file → Gave file (length text) n given → text ≡ file
front_whole file text given n z f w = f.same ∙ take_all (length text) file (w.ending z)

-- a text that is longer than a limit shows a file that is
pub front_past : (text file : List ℕ) (limit : ℕ) → IsFront text file → limit < length text → limit < length file
front_past text file limit f h =
    let same : length text ≡ min (length text) (length file) = ap length f.same ∙ length-take (length text) file in
    omega arith
