-- Names that differ.
use Rattle.std.specs.Prelude.{ℕ, Bool, true, not, ◌&&◌, List, [], ◌∷◌}
use Rattle.chc_sorts.specs.Names.{has_name}

-- whether no name stands twice
abbrev pub are_apart : List (List ℕ) → Bool
are_apart [] = true
are_apart (name ∷ names) = not (has_name names name) && are_apart names
