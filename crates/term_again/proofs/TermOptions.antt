-- What options of sorts give, and tests of lists of terms.
use Rattle.std.proofs.Common.{◌≡◌, refl, Bool, true, List, [], ◌∷◌, map, Option, Some, None, option_map, option_and_then}
use Rattle.std.specs.List.{list_all}
use Rattle.std.proofs.lemmas.Bool.{and_parts, and_from}
use Rattle.chc_sorts.specs.declared.sort.Sort.{Sort}

pub nothing_some : {A : Type 0} (x : A) → ◌≡◌ {A = Option A} None (Some x) → ⊥
nothing_some x e = cc

pub some_same : {A : Type 0} (x y : A) → ◌≡◌ {A = Option A} (Some x) (Some y) → x ≡ y
some_same x y e = cc

-- what an option of two options gives
pub both_some : (o : Option Sort) (os : Option (List Sort)) (all : List Sort) → option_and_then (λ s. option_map (λ (ss : List Sort). s ∷ ss) os) o ≡ Some all
    → (s : Sort) × (ss : List Sort) × (o ≡ Some s) × (os ≡ Some ss) × (s ∷ ss ≡ all)
both_some None os all h = absurd (nothing_some all h)
both_some (Some s) None all h = absurd (nothing_some all h)
both_some (Some s) (Some ss) all h = (s, ss, refl, refl, some_same (s ∷ ss) all h)

-- a test that passes on all that a list is mapped to
pub all_mapped : {A : Type 0} (p : A → Bool) (xs : List A) → list_all (λ b. b) (map p xs) ≡ true → list_all p xs ≡ true
all_mapped p [] h = refl
all_mapped p (x ∷ xs) h =
    let parts = and_parts (p x) (list_all (λ b. b) (map p xs)) h in
    and_from (p x) (list_all p xs) parts.0 (all_mapped p xs parts.1)
