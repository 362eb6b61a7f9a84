-- Trees in order, one for each element of a list, and trees in front of others.
use Rattle.std.proofs.Common.{refl, ℕ, ◌+◌, Bool, List, [], ◌∷◌, ◌++◌, length, map}
use Rattle.std.specs.Prelude.{IsTrue}
use Rattle.std.specs.List.{AllByRecursion}
use Rattle.chc_sexpr.specs.Spelling.{is_gap}
use Rattle.chc_sexpr.specs.Writing.{spaced, joined}
use Rattle.chc_sexpr.specs.declared.tree.Tree.{Tree}
use Rattle.chc_sexpr.proofs.Written.{TreesAt, Writes, is_parted, no_more_at, next_at}
use Rattle.term_again.proofs.TermTrees.{Begins, begin_at, spaced_parted}

-- trees in order, each of the kind of its own element
abbrev pub EachIs : {X : Type 0} → (X → Tree → Type 0) → List X → List Tree → Type 0
EachIs kind [] [] = Unit {0}
EachIs kind [] (t ∷ ts) = ⊥
EachIs kind (x ∷ xs) [] = ⊥
EachIs kind (x ∷ xs) (t ∷ ts) = kind x t × EachIs kind xs ts

-- one tree and more behind it, wherever that stands
pub first_at : (deep : ℕ) (ends : Bool) (first : Tree → Type 0) (rest : List Tree → Type 0) (place : ℕ) (gap text after : List ℕ) → IsTrue (is_gap gap) → IsTrue (is_parted after)
    → Writes first deep text → ((place : ℕ) → TreesAt rest deep ends place after) → TreesAt (Begins first rest) deep ends place (gap ++ text ++ after)
first_at deep ends first rest place gap text after blank parted writes more =
    begin_at deep ends first rest place gap text after blank (writes (place + length gap) after parted) (more (place + length gap + length text))

-- ---- one tree for each element of a list

module _ {X : Type 0} (kind : X → Tree → Type 0) (text : X → List ℕ) (deep : ℕ) (ends : Bool) where
  pub each_spaced : (xs : List X) → AllByRecursion (λ x. Writes (kind x) deep (text x)) xs → (place : ℕ) → TreesAt (EachIs kind xs) deep ends place (spaced (map text xs))
  each_spaced [] h place = no_more_at (EachIs kind []) deep ends place [] refl tt
  each_spaced (x ∷ xs) h place =
      next_at (kind x) (EachIs kind xs) (EachIs kind (x ∷ xs)) deep ends place (32 ∷ []) (text x) (spaced (map text xs)) refl
      (h.0 (place + 1) (spaced (map text xs)) (spaced_parted (map text xs)))
      (each_spaced xs h.1 (place + 1 + length (text x)))
      (λ t ts one more. (one, more))

  pub each_joined : (xs : List X) → AllByRecursion (λ x. Writes (kind x) deep (text x)) xs → (place : ℕ) → TreesAt (EachIs kind xs) deep ends place (joined (map text xs))
  each_joined [] h place = no_more_at (EachIs kind []) deep ends place [] refl tt
  each_joined (x ∷ xs) h place =
      next_at (kind x) (EachIs kind xs) (EachIs kind (x ∷ xs)) deep ends place [] (text x) (spaced (map text xs)) refl
      (h.0 (place + 0) (spaced (map text xs)) (spaced_parted (map text xs)))
      (each_spaced xs h.1 (place + 0 + length (text x)))
      (λ t ts one more. (one, more))
