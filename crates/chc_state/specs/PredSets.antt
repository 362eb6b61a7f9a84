-- Sets of predicates, and predicates that are no longer live.
use Rattle.std.specs.Prelude.{◌+◌, ℕ, Bool, true, not, ◌&&◌, nat_eq, nat_lt, List, [], ◌∷◌}
use Rattle.std.specs.List.{list_any, list_all}
use Rattle.chc_state.specs.declared.clause.PredDecl.{PredDecl}

-- a set of predicates, as a test
abbrev pub PredSet : Type 0
PredSet = ℕ → Bool

-- the set of the numbers in the list
abbrev pub set_of : List ℕ → PredSet
set_of ps p = list_any (nat_eq p) ps

-- the predicates from number n on, those of the set no longer live
abbrev pub retired : PredSet → ℕ → List PredDecl → List PredDecl
retired set n [] = []
retired set n (d ∷ ds) = record { sorts = d.sorts; live = d.live && not (set n) } ∷ retired set (n + 1) ds

-- each number is above the one before it
abbrev pub is_ascending : List ℕ → Bool
is_ascending [] = true
is_ascending (p ∷ ps) = list_all (nat_lt p) ps && is_ascending ps
