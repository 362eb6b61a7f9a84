-- Which sorts are the same, how deep they are, and which fit a signature.
use Rattle.std.specs.Prelude.{ℕ, ◌+◌, Bool, true, false, ◌&&◌, nat_eq, nat_lt, List, [], ◌∷◌, length}
use Rattle.chc_sorts.specs.declared.sort.Sort.{Sort, Sort-F, fold-Sort, out-Sort}
use Rattle.chc_sorts.specs.Signature.{Signature}

-- one level of `same_sort`
abbrev pub same_level : Sort-F (Sort → Bool) → Sort-F Sort → Bool
same_level Sort-F.Bool Sort-F.Bool = true
same_level Sort-F.Int Sort-F.Int = true
same_level (Sort-F.Data d) (Sort-F.Data e) = nat_eq d e
same_level (Sort-F.Array same) (Sort-F.Array s) = same s
same_level x y = false

-- whether the two are the same sort
abbrev pub same_sort : Sort → Sort → Bool
same_sort = fold-Sort (Sort → Bool) (λ level s. same_level level (out-Sort s))

-- whether the two lists have the same sorts in order
abbrev pub same_sorts : List Sort → List Sort → Bool
same_sorts [] [] = true
same_sorts [] (t ∷ ts) = false
same_sorts (s ∷ ss) [] = false
same_sorts (s ∷ ss) (t ∷ ts) = same_sort s t && same_sorts ss ts

abbrev pub sort_depth_step : Sort-F ℕ → ℕ
sort_depth_step Sort-F.Bool = 1
sort_depth_step Sort-F.Int = 1
sort_depth_step (Sort-F.Data d) = 1
sort_depth_step (Sort-F.Array n) = n + 1

-- the depth of a sort; Int has 1
abbrev pub sort_depth : Sort → ℕ
sort_depth = fold-Sort ℕ sort_depth_step

abbrev pub is_declared_step : Signature → Sort-F Bool → Bool
is_declared_step sig Sort-F.Bool = true
is_declared_step sig Sort-F.Int = true
is_declared_step sig (Sort-F.Data d) = nat_lt d (length sig.datatypes)
is_declared_step sig (Sort-F.Array element) = element

-- whether the sort names datatypes of the signature alone, and is at most 16 deep
abbrev pub sort_fits : Signature → Sort → Bool
sort_fits sig s = fold-Sort Bool (is_declared_step sig) s && nat_lt (sort_depth s) 17
