-- The lines of groups, one after the other.
use Rattle.std.proofs.Common.{◌≡◌, refl, ℕ, ◌+◌, ◌<◌, ◌≤◌, ◌++◌, true, false, nat_lt, List, [], ◌∷◌, take, drop, arith}
use Rattle.std.proofs.lemmas.Bool.Decides.{nat_tests}
use Rattle.chc_sorts.specs.Signature.{Signature}
use Rattle.chc_print.specs.Datatypes.{group_text, groups_text}

reached : (from reach : ℕ) → from < reach → nat_lt from reach ≡ true
reached from reach low = grind (arith, nat_tests)

passed : (from reach : ℕ) → reach ≤ from → nat_lt from reach ≡ false
passed from reach high = grind (arith, nat_tests)

-- no lines beyond the reach
pub none_beyond : (sig : Signature) (reach from : ℕ) (sizes : List ℕ) → reach ≤ from → groups_text sig reach from sizes ≡ []
none_beyond sig reach from [] high = refl
none_beyond sig reach from (size ∷ sizes) high = rw (passed from reach high) refl

-- the line of a group within the reach, then those of the later ones
pub next_group : (sig : Signature) (reach from size : ℕ) (sizes : List ℕ) → from < reach
    → groups_text sig reach from (size ∷ sizes) ≡ group_text sig (take size (drop from sig.datatypes)) ++ groups_text sig reach (from + size) sizes
next_group sig reach from size sizes low = rw (reached from reach low) refl
