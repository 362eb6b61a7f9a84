-- Which values are in range.
use Rattle.std.specs.Prelude.{ℕ, ℤ, ◌+◌, ◌-◌, ◌^◌, max, Bool, true, ◌&&◌, nat_abs, nat_le, List, [], ◌∷◌, map}
use Rattle.std.specs.List.{list_all}
use Rattle.chc_values.specs.declared.value.Value.{Value, Value-F, fold-Value}

-- the greatest integer in range
abbrev pub greatest_int : ℕ
greatest_int = 2 ^ 127 - 1

-- whether the integer lies in -M..M, M the greatest in range
abbrev pub is_int_in_range : ℤ → Bool
is_int_in_range n = nat_le (nat_abs n) greatest_int

abbrev pub ints_step : Value-F Bool → Bool
ints_step (Value-F.Bool b) = true
ints_step (Value-F.Int n) = is_int_in_range n
ints_step (Value-F.Data d c fields) = list_all (λ b. b) fields
ints_step (Value-F.Array default exceptions) = default && list_all (λ (e : ℤ × Bool). is_int_in_range e.0 && e.1) exceptions

-- whether each integer in the value is in range, the indices of exceptions too
abbrev pub are_ints_in_range : Value → Bool
are_ints_in_range = fold-Value Bool ints_step

-- the greatest of the numbers, or 0
abbrev pub greatest : List ℕ → ℕ
greatest [] = 0
greatest (n ∷ ns) = max n (greatest ns)

abbrev pub depth_step : Value-F ℕ → ℕ
depth_step (Value-F.Bool b) = 1
depth_step (Value-F.Int n) = 1
depth_step (Value-F.Data d c fields) = greatest fields + 1
depth_step (Value-F.Array default exceptions) = max default (greatest (map (λ (e : ℤ × ℕ). e.1) exceptions)) + 1

-- how many nodes a longest branch has
abbrev pub depth : Value → ℕ
depth = fold-Value ℕ depth_step

-- whether the value is at most n deep, with each integer in range
abbrev pub is_within : ℕ → Value → Bool
is_within n v = are_ints_in_range v && nat_le (depth v) n

-- whether each of the exceptions has such a value, at an index in range
abbrev pub are_entries_within : ℕ → List (ℤ × Value) → Bool
are_entries_within n = list_all (λ (e : ℤ × Value). is_int_in_range e.0 && is_within n e.1)
