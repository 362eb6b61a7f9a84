-- The names of helpers, which no script declares.
use Rattle.std.specs.Prelude.{◌≡◌, ◌<◌, ◌-◌, ℕ, true, false, cond, ⊤, List, [], ◌∷◌, ◌++◌, length, codes, decimal}
use Rattle.chc_sorts.specs.Names.{has_name}
use Rattle.chc_state.specs.States.{StateView}
use Rattle.chc_print.specs.Prefix.{used_names}

-- a stem with a number
abbrev pub numbered : List ℕ → ℕ → List ℕ
numbered stem number = stem ++ decimal number

-- the stem with the least number with which it is no name in use
pub record IsNextHelper (used : List (List ℕ)) (stem name : List ℕ) : Type 0 where
  pub number : ℕ
  pub form : name ≡ numbered stem number
  pub free : has_name used name ≡ false
  pub least : (fewer : ℕ) → fewer < number → has_name used (numbered stem fewer) ≡ true

-- names of helpers in order: each is the next one beside the names in use and those before it
abbrev pub AreHelpers : List (List ℕ) → List ℕ → List (List ℕ) → Type 0
AreHelpers used stem [] = ⊤
AreHelpers used stem (name ∷ names) = IsNextHelper used stem name × AreHelpers (used ++ name ∷ []) stem names

-- the name alone, where it isn't among these
abbrev pub if_free : List (List ℕ) → List ℕ → List (List ℕ)
if_free names name = cond (has_name names name) [] (name ∷ [])

-- the names of a state's predicates by number: those that are given, and `goal!` with a number for each one past them
pub record NamesPredicates (s : StateView) (names all : List (List ℕ)) : Type 0 where
  pub helpers : List (List ℕ)
  pub whole : all ≡ names ++ helpers
  pub count : length helpers ≡ length s.preds - length names
  pub are_next : AreHelpers (used_names s.sig names) (codes "goal!") helpers
