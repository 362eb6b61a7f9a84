-- The words name their files in one way.
use Rattle.std.proofs.Common.{◌≡◌, List, ℕ, [], ◌∷◌, subst, sym, ◌∙◌}
use Rattle.std.specs.Prelude.{codes}
use Rattle.chc_jobs.specs.Commands.{IsNormalise, IsLift}

module _ (k a b c a2 b2 c2 : List ℕ) (e : k ∷ a ∷ b ∷ c ∷ [] ≡ k ∷ a2 ∷ b2 ∷ c2 ∷ []) where
  first_same : a ≡ a2
  first_same = cc

  second_same : b ≡ b2
  second_same = cc

  third_same : c ≡ c2
  third_same = cc

-- what is said of the files of `normalise` is said of them by each way to name them
pub normalise_named : (P : List ℕ → List ℕ → List ℕ → Type 0) (words : List (List ℕ)) (a b c a2 b2 c2 : List ℕ)
    → IsNormalise words a b c → IsNormalise words a2 b2 c2 → P a b c → P a2 b2 c2
normalise_named P words a b c a2 b2 c2 x y h =
    let e = sym x.form ∙ y.form in
    let k = codes "normalise" in
    let Q : List ℕ → Type 0 = λ v. P v b c in
    let R : List ℕ → Type 0 = λ v. P a2 v c in
    let S : List ℕ → Type 0 = λ v. P a2 b2 v in
    subst S (third_same k a b c a2 b2 c2 e) (subst R (second_same k a b c a2 b2 c2 e) (subst Q (first_same k a b c a2 b2 c2 e) h))

module _ (k a b c d a2 b2 c2 d2 : List ℕ) (e : k ∷ a ∷ b ∷ c ∷ d ∷ [] ≡ k ∷ a2 ∷ b2 ∷ c2 ∷ d2 ∷ []) where
  one_same : a ≡ a2
  one_same = cc

  two_same : b ≡ b2
  two_same = cc

  three_same : c ≡ c2
  three_same = cc

  four_same : d ≡ d2
  four_same = cc

-- what is said of the files of `lift` is said of them by each way to name them
pub lift_named : (P : List ℕ → List ℕ → List ℕ → List ℕ → Type 0) (words : List (List ℕ)) (a b c d a2 b2 c2 d2 : List ℕ)
    → IsLift words a b c d → IsLift words a2 b2 c2 d2 → P a b c d → P a2 b2 c2 d2
lift_named P words a b c d a2 b2 c2 d2 x y h =
    let e = sym x.form ∙ y.form in
    let k = codes "lift" in
    let Q : List ℕ → Type 0 = λ v. P v b c d in
    let R : List ℕ → Type 0 = λ v. P a2 v c d in
    let S : List ℕ → Type 0 = λ v. P a2 b2 v d in
    let T : List ℕ → Type 0 = λ v. P a2 b2 c2 v in
    subst T (four_same k a b c d a2 b2 c2 d2 e) (subst S (three_same k a b c d a2 b2 c2 d2 e) (subst R (two_same k a b c d a2 b2 c2 d2 e) (subst Q (one_same k a b c d a2 b2 c2 d2 e) h)))
