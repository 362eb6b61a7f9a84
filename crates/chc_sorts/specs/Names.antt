-- Names by number, and what stands under a name.
use Rattle.std.specs.Prelude.{ℕ, Bool, cond, List, [], ◌∷◌, Option, Some, None, suc, ◌++◌}
use Rattle.std.specs.List.{list_any, position}
use Rattle.std.specs.Str.{bytes_eq}

-- whether the name is among these
abbrev pub has_name : List (List ℕ) → List ℕ → Bool
has_name names name = list_any (bytes_eq name) names

-- the number of a name: the first place where the list has it
abbrev pub number_of : List (List ℕ) → List ℕ → Option ℕ
number_of names name = position (bytes_eq name) names

-- what stands first under the name
abbrev pub look_up : {X : Type 0} → List (List ℕ × X) → List ℕ → Option X
look_up [] name = None
look_up ((other, x) ∷ rows) name = cond (bytes_eq other name) (Some x) (look_up rows name)

-- what the function gives on each, with its number counted from n, all in one list
abbrev pub each_from : {X Y : Type 0} → (ℕ → X → List Y) → ℕ → List X → List Y
each_from {X} {Y} f n [] = []
each_from {X} {Y} f n (x ∷ xs) = f n x ++ each_from f (suc n) xs
