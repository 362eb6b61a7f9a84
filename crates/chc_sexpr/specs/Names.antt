-- Names that can be told apart and written.
use Rattle.std.specs.Prelude.{◌≡◌, ℕ, IsTrue, List, Some, slice_get}
use Rattle.std.specs.List.{list_all}
use Rattle.chc_sexpr.specs.Spelling.{is_quotable}

-- no name stands twice, and each can stand between the bars of a quoted symbol
pub record AreNames (names : List (List ℕ)) : Type 0 where
  pub apart : (i j : ℕ) (name : List ℕ) → slice_get names i ≡ Some name → slice_get names j ≡ Some name → i ≡ j
  pub quotable : IsTrue (list_all (list_all is_quotable) names)
